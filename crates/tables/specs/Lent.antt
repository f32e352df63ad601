-- The tables behind what is lent for reading. For the contracts of the functions that are given sound tables. Assumes nothing.
use Rattle.tables.specs.Tables.{Tables, tables}
use Rattle.tables.specs.declared.Sound.{Sound}

abbrev pub lent : Sound → Tables
lent s = tables s.book.now s.keys.now s.texts.now
