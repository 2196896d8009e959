-- A line with the kind that it was found to have.
use Rattle.scheme.specs.declared.kind.Kind.{Kind}
use Rattle.words.specs.declared.position.Line.{Line}
use Rattle.lines.specs.declared.statement.Statement.{Statement}

abbrev pub stated : Line → Kind → Statement
stated l k = record { kind = k; line = l }
