-- The spots of two transcripts as code lends their lists.
-- Assumes nothing.
use Rattle.std.specs.Prelude.{◌-◌, Bool, not, List, Option}
use Rattle.lists.specs.Index.{same}
use Rattle.walk.specs.Lists.{lists_size}
use Rattle.inputs.specs.Layout.{execution_size}
use Rattle.compare.specs.declared.Spot.{Spot}
use Rattle.compare.specs.declared.sides.Compared.{Compared}
use Rattle.compare.specs.Spots.{Inside, shown, first_spot}

-- the place of r lies in the lists
abbrev pub Fits : Compared → Spot → Type 0
Fits c r =
    Inside (lists_size c.numbers.executions (c.numbers.executions - c.numbers.opened)) (execution_size c.numbers.m c.numbers.parties) r

-- the lists differ at r
abbrev pub differ_at : Compared → Spot → Bool
differ_at c r = not (same (shown r c.one.lists.now c.one.inputs.now) (shown r c.two.lists.now c.two.inputs.now))

-- the first of these spots at which the lists differ
abbrev pub first_between : List Spot → Compared → Option Spot
first_between ss c = first_spot ss c.one.lists.now c.two.lists.now c.one.inputs.now c.two.inputs.now
