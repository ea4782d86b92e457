-- The keys and the parts that a run stands for.
-- Assumes nothing.
use Rattle.protocol.specs.Key.{Key}
use Rattle.protocol.specs.Transcript.{Parts}
use Rattle.walk.specs.declared.given.Run.{Run}
use Rattle.walk.specs.Walk.{Standing}

abbrev pub Stands : Run → Key → Parts → Type 0
Stands r K P =
    Standing r.statement.modulus.q r.statement.n r.statement.m r.statement.parties r.executions r.openings r.statement.depth r.statement.entries.now r.parts.p2.now r.parts.p3.now r.parts.p4.now r.parts.p6.now r.parts.p7.now K P
