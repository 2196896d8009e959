-- The names of the entries are those of what they stand for.
use Rattle.std.proofs.Common.{get_or, sym, ap, ◌∙◌, []}
use Rattle.scheme.specs.declared.kind.Kind.{Kind}
use Rattle.scheme.specs.Models.{AttributeModel, ObjectModel, PolicyModel, attribute_of, object_of, policy_of, names_of}
use Rattle.scheme.specs.Drafts.{draft_of}
use Rattle.report.proofs.Named.{names_are}
use Rattle.report.proofs.names.name_of.Goals as goal

pub returns-in-Attr : goal.returns-in-Attr
returns-in-Attr c =
    c.name_at.ensures
    ∙ ap (λ names. get_or names c.args.number []) (names_are attribute_of (λ (x : AttributeModel). x.name) c.attributes.result.now _ c.attributes.ensures.list)
    ∙ ap (λ (kind : Kind). get_or (names_of kind (draft_of c.args.draft.now)) c.args.number []) (sym c.in-Attr.is)

pub returns-in-Object : goal.returns-in-Object
returns-in-Object c =
    c.name_at-in-Object.ensures
    ∙ ap (λ names. get_or names c.args.number []) (names_are object_of (λ (x : ObjectModel). x.name) c.objects.result.now _ c.objects.ensures.list)
    ∙ ap (λ (kind : Kind). get_or (names_of kind (draft_of c.args.draft.now)) c.args.number []) (sym c.in-Object.is)

pub returns-in-Policy : goal.returns-in-Policy
returns-in-Policy c =
    c.name_at-in-Policy.ensures
    ∙ ap (λ names. get_or names c.args.number []) (names_are policy_of (λ (x : PolicyModel). x.name) c.policies.result.now _ c.policies.ensures.list)
    ∙ ap (λ (kind : Kind). get_or (names_of kind (draft_of c.args.draft.now)) c.args.number []) (sym c.in-Policy.is)
