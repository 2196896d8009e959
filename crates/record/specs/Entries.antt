-- The entries of the table of moves.
use Rattle.std.specs.Prelude.{◌%◌}
use Rattle.record.specs.declared.moves.Move.{Move}
use Rattle.record.specs.declared.moves.table.Entry.{Entry}

-- the numbers of a move, each cut to a byte
abbrev pub packed : Move → Entry
packed x = record { policy = x.policy % 256; subject = x.subject % 256; object = x.object % 256 }

-- the move that an entry stands for
abbrev pub unpacked : Entry → Move
unpacked e = record { policy = e.policy; subject = e.subject; object = e.object }
