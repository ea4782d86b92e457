-- `badge_message_5`: no message is longer than 100000 bytes. Assumes nothing.
use Rattle.badge_c.proofs.Sizes.{small_5}
use Rattle.badge_c.proofs.badge_message_5.Goals as goal

pub code-requires : goal.code-requires
code-requires c = small_5 _ _ _ _ _ _ _ _ _ _ c.badge_message_5-length.ensures.value
