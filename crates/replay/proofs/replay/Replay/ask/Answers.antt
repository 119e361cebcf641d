-- `replay::replay::Replay::ask`: each answer fits.
use Rattle.program.proofs.Fits.{answer_fits}
use Rattle.replay.proofs.replay.Replay.ask.Goals as goal

pub invariant_of-self-2 : goal.invariant_of-self-2
invariant_of-self-2 g c = record { fits = rw c.answer_line-size.ensures.gives.count (answer_fits _ _ _) }
