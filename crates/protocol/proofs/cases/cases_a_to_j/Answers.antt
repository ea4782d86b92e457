-- The table of cases, by computation: one proof for all rows. The numbers of the seeds in cases d to f are those of crate `case_seeds`.
-- Assumes nothing.
use mathlib.Core.Path.{refl}
use Rattle.lists.specs.Tab.{tab}
use Rattle.lists.specs.Index.{cat, every, count, holds}
use Rattle.lists.specs.Bytes.{le4, rd4, words, num}
use Rattle.lists.specs.Check.{first}
use Rattle.numbers.specs.Mod.{sub}
use Rattle.numbers.specs.Sum.{sum}
use Rattle.numbers.specs.Inverse.{inverse_of}
use Rattle.numbers.specs.Output.{out}
use Rattle.streams.specs.Streams.{word64, draw}
use Rattle.case_seeds.proofs.Seeds.{first_b, first_d, first_s, second_b, one_γ}
use Rattle.tree.specs.Tree.{opening}
use Rattle.protocol.specs.Key.{depth, key_of, limits, key_checks}
use Rattle.protocol.specs.Shares.{share, coefficient, b, d, s, α, αsum, run, o}
use Rattle.protocol.specs.Prover.{good_e, good_hidden, opened, place, hidden_of, solves, binary, statement_checks, checks3}
use Rattle.protocol.specs.Transcript.{part_at, parts_of, sizes, good_header, list, transcript}
use Rattle.protocol.specs.Judge.{hidden, given_count, reply_size, reply_at, given, good_numbers, form_checks}
use Rattle.protocol.proofs.cases.cases_a_to_j.Goals as goal

pub returns : goal.returns
unfolding tab cat every count holds le4 rd4 words num first sub sum inverse_of out word64 draw opening depth key_of limits key_checks share coefficient b d s α αsum run o good_e good_hidden opened place hidden_of solves binary statement_checks checks3 part_at parts_of sizes good_header list transcript hidden given_count reply_size reply_at given good_numbers form_checks
returns c =
    λ root. (
      refl,
      (
        refl,
        (
          refl,
          (
            rw (first_b, first_d, first_s, second_b, one_γ) refl,
            (
              rw (first_b, first_d, first_s, second_b, one_γ) refl,
              (rw (first_b, first_d, first_s, second_b, one_γ) refl, (refl, (refl, (refl, (refl, tt))))),
            ),
          ),
        ),
      ),
    )
