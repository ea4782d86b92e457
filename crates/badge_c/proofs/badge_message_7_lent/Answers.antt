-- `badge_message_7_lent`: no message is longer than 100000 bytes. Assumes nothing.
use Rattle.badge_c.proofs.Sizes.{small_7}
use Rattle.badge_c.proofs.badge_message_7_lent.Goals as goal

pub code-requires : goal.code-requires
code-requires c = small_7 _ _ _ _ _ _ _ _ _ _ _ c.message_7-length.ensures.value
