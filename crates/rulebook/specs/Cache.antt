-- What a cache remembers.
use Rattle.std.specs.Prelude.{List}
use Rattle.rulebook.specs.declared.cache.Table.{Table}
use Rattle.rulebook.specs.declared.cache.asking.Cache.{Cache}
use Rattle.rulebook.specs.declared.entry.Entry.{Entry}

abbrev pub remembered : Table → List Entry
remembered table = table.entries.items

abbrev pub entries_of : {R : Type 0} → Cache R → List Entry
entries_of cache = remembered cache.table
