-- `prepare::put_last` meets its contract. Assumes nothing.
use Rattle.std.proofs.Common.{rules, ◌+◌, ◌*◌, ◌-◌}
use Rattle.execution.proofs.Laws.{put_read}
use Rattle.execution.proofs.prepare.put_last.Goals as goal

pub returns : goal.returns
returns c =
    let s = c.args.sharing in
    rw (← c.last_count-count.ensures)
    (put_read c.args.work.now c.read_numbers.new.out c.args.given.now (3 * s.m * (s.parties - 1) + s.m) c.last_count-count.result (s.m + 1) (search rules) c.read_numbers.ensures)
