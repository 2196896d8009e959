-- Worked examples of limits: the most entries of each kind, and the most states.
use Rattle.std.specs.Prelude.{◌≡◌, ℕ, Bool, true, false, List, [], ◌∷◌, map, replicate, codes, Some, None, Ok, Err, Result}
use Rattle.scheme.specs.declared.kind.Kind.{Kind}
use Rattle.scheme.specs.declared.kind.Kind.TheVariants as kind
use Rattle.scheme.specs.declared.terms.Party.TheVariants.{Subject}
use Rattle.scheme.specs.declared.terms.Term.{Term}
use Rattle.scheme.specs.declared.terms.Predicate.TheVariants.{Set}
use Rattle.scheme.specs.declared.terms.Action.TheVariants.{Clear}
use Rattle.scheme.specs.Models.{PolicyModel, SchemeModel, room_for}
use Rattle.scheme.specs.Counts.{state_count}
use Rattle.scheme.specs.WellFormed.{value_fits}
use Rattle.words.specs.Outcomes.{and_then}
use Rattle.words.specs.Positions.{PlainLine}
use Rattle.words.specs.Cuts.{text_lines, words_of}
use Rattle.text.specs.declared.fault.SchemeFault.{SchemeFault}
use Rattle.text.specs.declared.fault.SchemeFault.TheVariants.{Most}
use Rattle.text.specs.Faults.{scheme_report}
use Rattle.text.specs.Naming.{under_most, size_check}
use Rattle.text.specs.Reading.{Progress, start, read_line, reading}
use Rattle.worked_examples.specs.Cutting.{line, word}
use Rattle.worked_examples.specs.Texts.{most, too_many}

-- a policy with so many predicates and actions
abbrev pub policy_with : ℕ → ℕ → PolicyModel
policy_with predicates actions =
    let t : Term = record { party = Subject; attribute = 0 } in
    record {
      name = codes "p";
      right = 0;
      predicates = replicate predicates (Set t);
      actions = replicate actions (Clear t);
    }

-- a scheme with so many attributes, rights, objects and queries, and these policies
abbrev pub scheme_with : (attributes rights objects queries : ℕ) → List PolicyModel → SchemeModel
scheme_with attributes rights objects queries policies =
    record {
      attributes = replicate attributes (record { name = codes "a"; size = 1 });
      rights = replicate rights (codes "r");
      objects = replicate objects (record { name = codes "x"; values = [] });
      policies = policies;
      queries = replicate queries (record { subject = 0; object = 0; right = 0 });
    }

abbrev pub of_policies : List PolicyModel → SchemeModel
of_policies ps = scheme_with 0 0 0 0 ps

-- of schemes of growing size, whether there is room for one more of a kind
abbrev pub room : Kind → (ℕ → SchemeModel) → List ℕ → List Bool
room k scheme sizes = map (λ n. room_for k (scheme n)) sizes

-- there is room below the most, and none at it
abbrev pub up_to_the_most : List Bool
up_to_the_most = true ∷ true ∷ false ∷ []

-- the text is accepted, and of the scheme that it declares this holds
abbrev pub Declares : List ℕ → (SchemeModel → Type 0) → Type 0
Declares text P = (m : SchemeModel) × ((reading text ≡ Ok m) × P m)

-- the text is refused with this number
abbrev pub Refuses : List ℕ → ℕ → Type 0
Refuses text n = (f : SchemeFault) × ((reading text ≡ Err f) × ((scheme_report f).number ≡ n))

-- what lines declare, before the end of their text is judged
abbrev pub declared_by : List PlainLine → Progress → Result Progress SchemeFault
declared_by [] p = Ok p
declared_by (l ∷ ls) p = and_then (read_line p l) (declared_by ls)

pub record Limits : Type 0 where
  pub attributes : room kind.Attr (λ n. scheme_with n 0 0 0 []) (0 ∷ 3 ∷ 4 ∷ []) ≡ up_to_the_most
  pub rights : room kind.Right (λ n. scheme_with 0 n 0 0 []) (0 ∷ 15 ∷ 16 ∷ []) ≡ up_to_the_most
  pub objects : room kind.Object (λ n. scheme_with 0 0 n 0 []) (0 ∷ 7 ∷ 8 ∷ []) ≡ up_to_the_most
  pub policies :
      room kind.Policy (λ n. of_policies (replicate n (policy_with 6 6))) (0 ∷ 31 ∷ 32 ∷ [])
      ≡ up_to_the_most
  pub queries : room kind.Query (λ n. scheme_with 0 0 0 n []) (0 ∷ 15 ∷ 16 ∷ []) ≡ up_to_the_most
  -- the most predicates and actions are those of one policy, the last one
  pub predicates : room kind.If (λ n. of_policies (policy_with n 6 ∷ [])) (0 ∷ 5 ∷ 6 ∷ [])
      ≡ up_to_the_most
  pub actions : room kind.Do (λ n. of_policies (policy_with 6 n ∷ [])) (0 ∷ 5 ∷ 6 ∷ [])
      ≡ up_to_the_most
  pub none_without_a_policy : map (λ k. room_for k (of_policies [])) (kind.If ∷ kind.Do ∷ [])
      ≡ false ∷ false ∷ []
  pub predicates_below_a_full_policy :
      room kind.If (λ n. of_policies (policy_with 6 6 ∷ policy_with n 6 ∷ [])) (0 ∷ 5 ∷ 6 ∷ [])
      ≡ up_to_the_most
  pub actions_below_a_full_policy :
      room kind.Do (λ n. of_policies (policy_with 6 6 ∷ policy_with 6 n ∷ [])) (0 ∷ 5 ∷ 6 ∷ [])
      ≡ up_to_the_most
  -- one more is at fault, at the first word of its line
  pub one_attribute_more :
      under_most kind.Attr (scheme_with 4 0 0 0 []) (words_of (line 9 (codes "  attr b 1")))
      ≡ Err (Most (record { line = 9; place = 3 }))
  pub fourth_attribute :
      under_most kind.Attr (scheme_with 3 0 0 0 []) (words_of (line 9 (codes "  attr b 1")))
      ≡ Ok tt
  -- sizes are 1 to 250, and a value is below its size
  pub size_1 : size_check (word 1 8 (codes "1")) ≡ Ok tt
  pub size_250 : size_check (word 1 8 (codes "250")) ≡ Ok tt
  pub sizes_of_values : map (value_fits 3) (None ∷ Some 0 ∷ Some 2 ∷ Some 3 ∷ Some 255 ∷ [])
      ≡ true ∷ true ∷ true ∷ false ∷ false ∷ []
  -- 1,048,576 states, and more
  pub most_states : Declares most (λ m. state_count m ≡ 1048576)
  pub more_states :
      (p : Progress)
      × ((declared_by (text_lines too_many) start ≡ Ok p) × (state_count p.scheme ≡ 1050625))
  pub more_are_refused : Refuses too_many 25
