-- What the check leaves of `write_errors`. Assumes nothing.
use mathlib.Core.Path.{ap₂}
use Rattle.std.proofs.Common.{◌++◌}
use Rattle.reading.specs.Found.{uv_at}
use Rattle.reading.proofs.values.Values.write_errors.Goals as goal

pub returns : goal.returns
unfolding uv_at
returns c = ap₂ (λ a b. a ++ b) c.write_u.ensures c.write_v.ensures
