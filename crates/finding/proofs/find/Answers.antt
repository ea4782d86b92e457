-- `find` meets its contract. Assumes nothing.
use mathlib.Core.Path.{sym, ◌∙◌}
use Rattle.compare.specs.Spots.{shown}
use Rattle.reading.specs.Keyed.{keyed}
use Rattle.finding.proofs.Laws.{inside-at, shown-long, reads_found, reads_collision, in_none, in_spot}
use Rattle.finding.proofs.find.Goals as goal

pub returns-in_default : goal.returns-in_default
returns-in_default c =
    let K = keyed c.args.values in
    reads_found K c.args.e c.args.values.sums.now c.args.hash1.now c.args.hash2.now
    (in_none K c.args.e c.args.one.hidden c.args.two.hidden c.args.one.lists.now c.args.two.lists.now c.args.one.inputs.now c.args.two.inputs.now c.args.values.sums.now (sym c.in_default.is ∙ c.first_difference.ensures.value))
    c.read_values.ensures

pub returns : goal.returns
returns c =
    let K = keyed c.args.values in
    let spot = c.in-Some.spot in
    reads_collision spot.kind c.args.e spot.party spot.length (shown spot c.args.one.lists.now c.args.one.inputs.now) (shown spot c.args.two.lists.now c.args.two.inputs.now)
    c.args.hash1.now c.args.hash2.now c.args.secret.now c.args.uv.now
    (in_spot K c.args.e c.args.one.hidden c.args.two.hidden c.args.one.lists.now c.args.two.lists.now c.args.one.inputs.now c.args.two.inputs.now c.args.values.sums.now spot (sym c.in-Some.is ∙ c.first_difference.ensures.value))
    (shown-long spot c.args.one.lists.now c.args.one.inputs.now (inside-at spot c.requires.lists1_long c.requires.inputs1_long c.in-Some.ensures.inside))
    (shown-long spot c.args.two.lists.now c.args.two.inputs.now (inside-at spot c.requires.lists2_long c.requires.inputs2_long c.in-Some.ensures.inside))
    (c.copy_from_slice.ensures.after ∙ c.input.ensures) (c.copy_from_slice-2.ensures.after ∙ c.input-2.ensures)
