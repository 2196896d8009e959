-- The table that lent numbers are.
use Rattle.systems.specs.declared.numbers.Numbers.{Numbers}
use Rattle.systems.specs.Tables.{Table}

abbrev pub table_of : Numbers → Table
table_of n =
    record {
      states = n.states;
      moves = n.moves;
      objects = n.objects;
      rights = n.rights;
      start = n.start;
      labels = n.labels.now;
      entries = n.entries.now;
    }
