-- `firmware::clip_bytes` meets its contract: what is sent is the definition's.
use Rattle.std.proofs.Common.{◌≡◌, refl, sym, ap, ◌∙◌, ℕ, ℤ, pos, ◌/◌, length, take, replicate}
use lib.ListN.{length-replicate}
use borrow.Author.Tests.{eqb-false}
use Rattle.entry.proofs.Sheets.{number_not_zero}
use Rattle.rectclip.proofs.Walking.{thrown}
use Rattle.firmware.specs.Sending.{path_refusal}
use Rattle.firmware.proofs.Exporting.{refused_early, part_read, may_send, all_exported, all_returned}
use Rattle.firmware.proofs.clip_bytes.Goals as goal

pub returns-in_err-check_path-clause-bytes : goal.returns-in_err-check_path-clause-bytes
returns-in_err-check_path-clause-bytes c =
    rw (thrown c.from_residual.result c.from_residual.ensures)
    (refused_early c.args.path.now c.args.closed c.args.rect c.args.coordinates.now c.args.lengths.now c.args.counts.now (rw c.in_err-check_path.was at c.check_path.ensures) (eqb-false _ 0 (number_not_zero _)))

pub returns-in_err-drawn-clause-bytes : goal.returns-in_err-drawn-clause-bytes
returns-in_err-drawn-clause-bytes c =
    let path = c.args.path.now in
    let none : path_refusal path ≡ 0 = sym (rw c.in_ok-check_path.was at c.check_path.ensures) in
    rw (thrown c.from_residual-in_err-drawn.result c.from_residual-in_err-drawn.ensures)
    (all_exported path none c.args.closed c.args.rect _ (replicate 512 (pos 0)) (replicate 257 0)
    (ap (take (length path / 4)) c.read_words.ensures ∙ part_read path (replicate 256 (pos 0)))
    (length-replicate {A = ℤ} 512 (pos 0)) (length-replicate {A = ℕ} 257 0) c.clip.ensures.leaves
    c.args.coordinates.now c.args.lengths.now c.args.counts.now (rw c.in_err-drawn.was refl))

pub send-requires : goal.send-requires
send-requires c =
    let path = c.args.path.now in
    let none : path_refusal path ≡ 0 = sym (rw c.in_ok-check_path.was at c.check_path.ensures) in
    rw c.in_ok-drawn.was at
    (may_send path none c.args.closed c.args.rect _ (replicate 512 (pos 0)) (replicate 257 0)
    (ap (take (length path / 4)) c.read_words.ensures ∙ part_read path (replicate 256 (pos 0)))
    (length-replicate {A = ℤ} 512 (pos 0)) (length-replicate {A = ℕ} 257 0) c.clip.ensures.leaves)

pub returns-clause-bytes : goal.returns-clause-bytes
returns-clause-bytes c =
    let path = c.args.path.now in
    let none : path_refusal path ≡ 0 = sym (rw c.in_ok-check_path.was at c.check_path.ensures) in
    all_exported path none c.args.closed c.args.rect _ (replicate 512 (pos 0)) (replicate 257 0)
    (ap (take (length path / 4)) c.read_words.ensures ∙ part_read path (replicate 256 (pos 0)))
    (length-replicate {A = ℤ} 512 (pos 0)) (length-replicate {A = ℕ} 257 0) c.clip.ensures.leaves
    c.args.coordinates.now c.args.lengths.now c.args.counts.now (rw c.in_ok-drawn.was c.send.ensures)

pub returns-clause-returned : goal.returns-clause-returned
returns-clause-returned c =
    let path = c.args.path.now in
    let none : path_refusal path ≡ 0 = sym (rw c.in_ok-check_path.was at c.check_path.ensures) in
    all_returned path none c.args.closed c.args.rect _ (replicate 512 (pos 0)) (replicate 257 0)
    (ap (take (length path / 4)) c.read_words.ensures ∙ part_read path (replicate 256 (pos 0)))
    (length-replicate {A = ℤ} 512 (pos 0)) (length-replicate {A = ℕ} 257 0) c.clip.ensures.leaves c.clip.ensures.returned
    c.args.coordinates.now c.args.lengths.now c.args.counts.now (rw c.in_ok-drawn.was c.send.ensures)
