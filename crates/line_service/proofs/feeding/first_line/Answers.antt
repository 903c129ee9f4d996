use Rattle.line_service.proofs.Feeds.{plain_all, plain_before, fed_front}
use Rattle.line_service.proofs.feeding.first_line.Goals as goal

pub returns-in_err-end : goal.returns-in_err-end
returns-in_err-end c = rw c.from_residual.ensures (plain_all c.args.bytes.now (rw c.in_err-end.was at c.memchr.ensures))

pub returns : goal.returns
returns c =
    let bytes = c.args.bytes.now in
    let first = rw c.in_ok-end.was at c.memchr.ensures in
    (plain_before bytes c.in_ok-end.end first, fed_front bytes c.in_ok-end.end first)
