-- What an accepted scheme declares.
use Rattle.scheme.specs.Models.{SchemeModel}
use Rattle.scheme.specs.Drafts.{draft_of}
use Rattle.record.specs.declared.record.Scheme.{Scheme}

abbrev pub scheme_of : Scheme → SchemeModel
scheme_of s = draft_of s.draft
