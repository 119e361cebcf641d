-- A line cut behind the longest that can be read. Assumes nothing.
use Rattle.std.proofs.Common.{◌≡◌, refl, ap, ℕ, ◌<◌, Bool, true, false, List, length, take, ltb, arith}
use lib.ListN.{length-take}
use lib.Seq.{take_all}
use borrow.Author.Tests.{lt-ltb, ltb-true, ltb-false}
use Rattle.text.specs.Reading as reading
use Rattle.text.specs.Asked.{request}

-- ---- a line that is too long asks nothing, cut or not
pub request_cut : (first : Bool) (l : List ℕ) → request first (take 4097 l) ≡ request first l
unfolding reading.request
request_cut first l = go (ltb 4096 (length l)) refl
  where
    go : (b : Bool) → ltb 4096 (length l) ≡ b → request first (take 4097 l) ≡ request first l
    go true e =
        let h : 4096 < length (take 4097 l) = simp length-take (omega (arith, ltb-true 4096 (length l) e)) in
        rw (e, lt-ltb 4096 (length (take 4097 l)) h) refl
    go false e = ap (request first) (take_all 4097 l (omega (arith, ltb-false 4096 (length l) e)))
