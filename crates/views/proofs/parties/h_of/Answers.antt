-- `parties::h_of` meets its contract. Assumes nothing.
use Rattle.std.proofs.Common.{ap, ◌∙◌}
use Rattle.sha_core.specs.Fips180.{sha256}
use Rattle.views.proofs.Laws.{h_is}
use Rattle.views.proofs.parties.h_of.Goals as goal

pub returns : goal.returns
returns c K v so = c.hash.ensures ∙ ap sha256 (c.h_input.ensures ∙ h_is so c.args.lists.work_long)
