-- What a candidate is judged by: what the lines above it declare, and its kind and words.
use Rattle.std.specs.Prelude.{List}
use Rattle.scheme.specs.declared.kind.Kind.{Kind}
use Rattle.scheme.specs.Models.{SchemeModel}
use Rattle.scheme.specs.Drafts.{draft_of}
use Rattle.words.specs.Positions.{PlainWord}
use Rattle.words.specs.Cuts.{line_words}
use Rattle.text.specs.declared.candidate.Candidate.{Candidate}

abbrev pub above : Candidate → SchemeModel
above c = draft_of c.draft.now

abbrev pub its_kind : Candidate → Kind
its_kind c = c.statement.kind

abbrev pub its_words : Candidate → List PlainWord
its_words c = line_words c.statement.line
