-- A node of a ring comes back to itself along the links in at most as many steps as there are nodes: what the loops round a ring need.
use mathlib.Core.List.{List, [], ◌∷◌}
use Prim.Native.Nat.{ℕ, suc, ◌<◌, ◌≤◌}
use lib.ListN.{length, get_or}
use lib.IntN.{ℤ, pos}
use Rattle.reference.specs.Arena.{Arena, next_of, prev_of}
use Rattle.theorems.specs.Bounds.{Ringed, last, step, Ring}
use Rattle.theorems.specs.LoopsEnd.{Comes}
use Rattle.theorems.proofs.Ends.{ring_back}
use Rattle.theorems.proofs.RingLaw.{Link, Chain, end}
use Rattle.theorems.proofs.Pigeon.{pigeon}
use Rattle.theorems.proofs.RingLists.{In, all_map}
use Rattle.theorems.proofs.RingSet.{Rings}
use Rattle.theorems.proofs.RingStep.{from_node}
use Rattle.theorems.proofs.TidyLinks.{below_of}

pub chain_ringed : (a : Arena) (op x : ℕ) (xs : List ℕ) → Chain (next_of a) (prev_of a) x xs → Link (next_of a) (prev_of a) (end x xs) op → Ringed a op x xs
chain_ringed a op x [] c l = last l.fore l.back
chain_ringed a op x (y ∷ ys) c l = step c.0.fore c.0.back (chain_ringed a op y ys c.1 l)

-- the ring that node i is in has at most n nodes, since they are different and all less than n
module _ (n : ℕ) (a : Arena) (ow : ℕ → ℕ) (rs : List (List ℕ)) (G : Rings n (next_of a) (prev_of a) ow rs) (s i : ℕ) (h : In i (get_or rs s [])) where
  abbrev wt : ℕ → ℕ → ℤ
  wt i j = pos 0

  others : List ℕ
  others = (from_node wt n (next_of a) (prev_of a) ow rs G s i h).0

  few : length others < n
  unfolding others
  few =
      let t = from_node wt n (next_of a) (prev_of a) ow rs G s i h in
      pigeon n (i ∷ t.0) t.1.fine.once (below_of n (i ∷ t.0) (all_map _ _ (i ∷ t.0) (λ j m. m.0) t.1.fine.own))

  -- The ring in the words of Bounds.
  pub ring_at : Ring n a i
  unfolding others
  ring_at =
      let t = from_node wt n (next_of a) (prev_of a) ow rs G s i h in
      record { others = t.0; few = few; ringed = chain_ringed a i i t.0 t.1.fine.ring.chain t.1.fine.ring.closes }

  -- Node i comes back to itself.
  pub ring_comes : (m : ℕ) → n ≤ suc m → Comes (next_of a) i m (next_of a i)
  ring_comes m l = ring_back n m a i ring_at l
