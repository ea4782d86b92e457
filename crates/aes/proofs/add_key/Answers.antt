-- `aes::add_key` meets its contract, place by place. Assumes nothing.
use Rattle.std.proofs.Common.{rules}
use Rattle.aes.specs.Fips197.{add_key}
use Rattle.aes.proofs.Laws.{made}
use Rattle.aes.proofs.add_key.Goals as goal

pub returns : goal.returns
unfolding add_key
returns c = made _ _ _ 16 c.from_fn.result c.from_fn.ensures.items (λ k y q b m. search rules)
