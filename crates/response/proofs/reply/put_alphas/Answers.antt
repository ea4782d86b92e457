-- `reply::put_alphas` meets its contract. Assumes nothing.
use Rattle.std.proofs.Common.{rules, arith, ap, ◌≡◌, ◌∙◌, length}
use Rattle.lists.specs.Tab.{list_is_tab}
use Rattle.lists.specs.Bytes.{words}
use Rattle.lists.specs.CatLaws.{words-tab}
use Rattle.response.specs.Replies.{alpha_share}
use Rattle.response.proofs.reply.put_alphas.Goals as goal

pub returns : goal.returns
unfolding alpha_share
returns c =
    let long : length c.fill.new.out ≡ c.args.shares.m = search rules in
    c.put_numbers.ensures ∙ (ap words (list_is_tab _ _ _ long (λ k h. let value = c.fill.ensures.filled k (omega (arith, h, long, c.fill.ensures.long)) in search rules)) ∙ words-tab _ _)
