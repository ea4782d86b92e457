-- `read_fork` meets its contract. Assumes nothing.
use Rattle.protocol.specs.Transcript.{parts_of}
use Rattle.key.specs.Numbers.{key_with}
use Rattle.finding.proofs.Laws.{reads_known}
use Rattle.pair.proofs.Answering.{reads_finding}
use Rattle.pair.proofs.reader.read_fork.Goals as goal

pub returns : goal.returns
returns c =
    let k = c.args.key.numbers in
    let at = c.locate-place.ensures in
    let both = c.open_both.ensures in
    reads_finding (key_with k c.args.key.entries.now) (parts_of c.args.one.run.now) (parts_of c.args.two.run.now) c.locate-place.result.execution at.located.works
    (reads_known c.find.ensures k.limits.parties_least
    (record {
      listed1 = c.requires.listed;
      listed2 = c.requires.listed_2;
      written1 = both.written1;
      written2 = both.written2;
      hides1 = at.sound.hides;
      hides2 = at.sound_2.hides;
      kept1 = at.sound.kept;
      kept2 = at.sound_2.kept;
      joined = both.joined;
    }))
