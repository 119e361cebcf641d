-- `clip::PrinterVisitor::visit`: each answer fits.
use Rattle.program.proofs.Fits.{answer_fits}
use Rattle.clip.proofs.PrinterVisitor.visit.Goals as goal

pub shared_ref_as_front-write_all : goal.shared_ref_as_front-write_all
shared_ref_as_front-write_all g c = rw c.answer_line-n.ensures.gives.count (answer_fits _ _ _)
