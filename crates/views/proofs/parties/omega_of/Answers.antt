-- `parties::omega_of` meets its contract. Assumes nothing.
use Rattle.std.proofs.Common.{ap, ◌∙◌}
use Rattle.sha_core.specs.Fips180.{sha256}
use Rattle.views.proofs.Laws.{omega_is}
use Rattle.views.proofs.parties.omega_of.Goals as goal

pub returns : goal.returns
returns c K v so = c.hash.ensures ∙ ap sha256 (c.omega_input.ensures ∙ omega_is so c.args.lists.parties_least c.args.lists.work_long)
