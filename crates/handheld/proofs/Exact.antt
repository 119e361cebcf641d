-- A drawing has demand 3: a path that is not refused is within the coordinate limit, and so is its rectangle. Assumes nothing.
use mathlib.Core.Path.{◌≡◌, refl}
use mathlib.Core.Bool.{Bool, true, false}
use mathlib.Core.List.{List}
use Prim.Native.Nat.{ℕ, ◌/◌, ◌%◌, ◌≤◌}
use native.Mathlib.Omega.{arith}
use lib.ListN.{length}
use lib.Dec.{eqb, ltb}
use lib.IntN.{ℤ}
use borrow.Author.Tests.{ltb-false}
use Rattle.integers.specs.Tests.{T_of}
use Rattle.plane.specs.declared.rect.Rect64.{Rect64}
use Rattle.plane.specs.Basics.{Try, refuse, ok}
use Rattle.plane.specs.Points.{points_of}
use Rattle.plane.specs.Limit.{rect_in_limit, all_in_limit}
use Rattle.reference.specs.Walk.{no_room}
use Rattle.reference.specs.Entry.{Drawing, sheet_refusal, drawing_of}
use Rattle.theorems.proofs.ClosedArea.{call_bounded, demand_3}
use Rattle.handheld.specs.Drawn.{clipped, AlwaysExact}

-- ---- what is known of a path that is not refused
pub record Admitted (closed : Bool) (R : Rect64) (path : List ℤ) (d : Drawing) : Type 0 where
  pub short : length path / 2 ≤ 128
  pub frame : rect_in_limit R ≡ true
  pub points : all_in_limit path ≡ true
  pub drawn : drawing_of closed (no_room 256) 256 R (points_of path) ≡ ok d

pub admitted : (closed : Bool) (R : Rect64) (path : List ℤ) (d : Drawing) → clipped closed R path ≡ ok d → Admitted closed R path d
unfolding clipped sheet_refusal
admitted closed R path d e = go (eqb (length path % 2) 1) refl (ltb 128 (length path / 2)) refl (rect_in_limit R) refl (all_in_limit path) refl
  where
    refuses : {n : ℕ} → ◌≡◌ {A = Try Drawing} (refuse n) (ok d) → Admitted closed R path d
    refuses q = absurd (let z : ◌≡◌ {A = ℕ} 0 1 = cc in omega arith)

    go : (a : Bool) → eqb (length path % 2) 1 ≡ a → (b : Bool) → ltb 128 (length path / 2) ≡ b → (s : Bool) → rect_in_limit R ≡ s → (t : Bool) → all_in_limit path ≡ t → Admitted closed R path d
    go true p b q s u t v = refuses (rw p at e)
    go false p true q s u t v = refuses (rw (p, q) at e)
    go false p false q false u t v = refuses (rw (p, q, u) at e)
    go false p false q true u false v = refuses (rw (p, q, u, v) at e)
    go false p false q true u true v = record { short = ltb-false 128 (length path / 2) q; frame = u; points = v; drawn = rw (p, q, u, v) at e }

pub always_exact : AlwaysExact
always_exact closed R path d e =
    let a = admitted closed R path d e in
    demand_3 closed (no_room 256) 256 R path d (call_bounded 256 (omega arith)) (T_of a.frame) (T_of a.points) a.drawn
