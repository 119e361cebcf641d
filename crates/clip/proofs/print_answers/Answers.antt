-- `clip::print_answers` meets its contract.
use Rattle.std.proofs.Common.{sym, rules}
use Rattle.clip.proofs.Printing.{printed_behind}
use Rattle.clip.proofs.print_answers.Goals as goal

pub returns : goal.returns
returns g c = printed_behind _ (λ s. s.output.ghost_name) (λ s. s.rect) (λ s. g.W.Write.contents s.output.now) c.visit_lines.ensures (λ e. let q = sym e in search rules)
