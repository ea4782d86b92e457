-- `reply::dealt_reply` meets its contract. Assumes nothing.
use Rattle.std.proofs.Common.{◌∙◌}
use Rattle.response.proofs.Laws.{dealt-reply_is, reply_is}
use Rattle.response.proofs.reply.dealt_reply.Goals as goal

pub returns-clause-dealt_reply : goal.returns-clause-dealt_reply
returns-clause-dealt_reply c =
    let a = c.args in
    dealt-reply_is c.deal.ensures.dealt
    (λ K v deep so seeds.
    c.write_reply.ensures
    ∙ reply_is so seeds a.statement.parties_least (rw c.deal.ensures.work_len_unchanged c.requires.work_long) a.master.now a.seed.now a.hidden _ deep c.requires.hidden_lt_parties (c.output_of-o.ensures K v so))
