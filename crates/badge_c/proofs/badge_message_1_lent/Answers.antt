-- `badge_message_1_lent`: no message is longer than 100000 bytes. Assumes nothing.
use Rattle.badge_c.proofs.Sizes.{small_1}
use Rattle.badge_c.proofs.badge_message_1_lent.Goals as goal

pub code-requires : goal.code-requires
code-requires c = small_1 _ _ _ _ _ _ c.message_1-length.ensures.value
