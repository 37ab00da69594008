use Rattle.std.proofs.Common.{sym}
use Rattle.trace.specs.Items.{request}
use Rattle.trace.specs.Lefts.{and_left, left}
use Rattle.trace.proofs.Items.{item_hinted}
use Rattle.trace.proofs.reader.Reader.next.Goals as goal

pub returns-clause-hinted : goal.returns-clause-hinted
returns-clause-hinted c = item_hinted (left c.args.self.now) (and_left request (c.in_ok-item.item, c.in_ok-item.after)) (sym c.in_ok-item.ensures)
