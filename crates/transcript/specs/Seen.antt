-- The seven parts of a file as code lends them.
-- Assumes nothing.
use Rattle.protocol.specs.Transcript.{Parts}
use Rattle.transcript.specs.declared.parts.FileParts.{FileParts}

-- the parts' bytes
abbrev pub seen : FileParts → Parts
seen x = record { p1 = x.p1.now; p2 = x.p2.now; p3 = x.p3.now; p4 = x.p4.now; p5 = x.p5.now; p6 = x.p6.now; p7 = x.p7.now }
