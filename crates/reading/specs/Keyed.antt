-- The key of the joined values.
-- Assumes nothing.
use Rattle.protocol.specs.Key.{Key}
use Rattle.key.specs.Numbers.{key_with}
use Rattle.reading.specs.declared.values.Values.{Values}

abbrev pub keyed : Values → Key
keyed v = key_with v.key.numbers v.key.entries.now
