-- `badge_message_7`: no message is longer than 100000 bytes. Assumes nothing.
use Rattle.badge_c.proofs.Sizes.{small_7}
use Rattle.badge_c.proofs.badge_message_7.Goals as goal

pub code-requires : goal.code-requires
code-requires c = small_7 _ _ _ _ _ _ _ _ _ _ _ c.badge_message_7-length.ensures.value
