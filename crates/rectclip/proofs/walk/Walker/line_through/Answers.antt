-- `line_through` meets its contract: the second search, and two points added.
use Rattle.rectclip.proofs.Crossing.{through_lost, through_on}
use Rattle.rectclip.proofs.Walking.{thrown}
use Rattle.rectclip.proofs.Searches.{second_of}
use Rattle.rectclip.proofs.walk.Walker.line_through.Goals as goal

pub returns-in_err-add : goal.returns-in_err-add
returns-in_err-add c = λ at.
    rw (thrown c.from_residual.result c.from_residual.ensures)
    (through_lost c.args.self.now at c.args.c.prev c.args.c.segment.from c.args.c.segment.to c.args.c.ip.point (second_of c.search.ensures.frame c.search.ensures.starts c.search.ensures.ends _ _ c.second_search-second.ensures) c.add.ensures c.in_err-add.was)

pub returns : goal.returns
returns c = λ at. through_on c.args.self.now at c.args.c.prev c.args.c.segment.from c.args.c.segment.to c.args.c.ip.point (second_of c.search.ensures.frame c.search.ensures.starts c.search.ensures.ends _ _ c.second_search-second.ensures) c.add.ensures c.in_ok-add.was c.add-2.ensures
