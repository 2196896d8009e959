use Rattle.std.proofs.Common.{sym}
use Rattle.scheme.specs.Drafts.{draft_of}
use Rattle.text.proofs.Made.{made}
use Rattle.text.proofs.reader.Reader.finish.Goals as goal

pub returns : goal.returns
returns c =
    made c.args.number (draft_of c.args.self.draft) c.of.result c.ok_or.result c.requires (sym c.if-not-is_complete.ensures) c.of.ensures c.ok_or.ensures.value
