-- What a draft declares, as a scheme model.
use Rattle.std.specs.Prelude.{map}
use Rattle.bounded.specs.Items.{items}
use Rattle.scheme.specs.declared.draft.Draft.{Draft}
use Rattle.scheme.specs.Models.{SchemeModel, attribute_of, object_of}
use Rattle.scheme.specs.Tables.{policies_of}

abbrev pub draft_of : Draft → SchemeModel
draft_of d =
    record {
      attributes = map attribute_of (items d.attributes);
      rights = map items (items d.rights);
      objects = map object_of (items d.objects);
      policies = policies_of d.policies;
      queries = items d.queries;
    }
