-- `badge_message_3`: no message is longer than 100000 bytes. Assumes nothing.
use Rattle.badge_c.proofs.Sizes.{small_3}
use Rattle.badge_c.proofs.badge_message_3.Goals as goal

pub code-requires : goal.code-requires
code-requires c = small_3 _ _ _ _ _ _ _ _ _ c.badge_message_3-length.ensures.value
