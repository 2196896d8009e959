use Rattle.std.proofs.Common.{◌≡◌, ℕ, ◌<◌, List, length, map, get_or, Some, sym, ap, ◌∙◌, subst, zero-add, arith}
use Rattle.std.proofs.lemmas.List.{get_or-map}
use Rattle.std.proofs.lemmas.List.FromFn.{get_or-map-range_with_len}
use Rattle.std.proofs.lemmas.Bool.{cond-true, cond-false, lt-ltb, le-ltb}
use Rattle.std.specs.Option.{option_map}
use Rattle.bounded.specs.Items.{items}
use Rattle.scheme.specs.Counts.{move_count}
use Rattle.record.specs.declared.moves.Move.{Move}
use Rattle.record.specs.declared.moves.table.Entry.{Entry}
use Rattle.record.specs.declared.record.Scheme.{Scheme}
use Rattle.record.specs.declared.record.uses.Use.{Use}
use Rattle.record.specs.Moves.{move_at, InScheme}
use Rattle.record.specs.Entries.{unpacked}
use Rattle.record.specs.Systems.{object_count}
use Rattle.record.specs.SystemLaws.{moves_counted}
use Rattle.record.specs.Schemes.{scheme_of}
use Rattle.record.proofs.Leading.{in_scheme}
use Rattle.record.proofs.record.Scheme.use_of.Goals as goal

-- the list of moves has the move with each number
listed : (self : Scheme) (list : List Entry) (v : ℕ) (x : Entry) → list ≡ items self.moves → v < length list → x ≡ get_or list v x
    → (v < move_count (scheme_of self)) × (unpacked x ≡ move_at (object_count (scheme_of self)) v)
listed self list v x is inside at =
    let m = scheme_of self in
    let y = unpacked x in
    let all = ap (map unpacked) is ∙ self.listed in
    let below : v < move_count m = omega (arith, ap length is ∙ moves_counted self) in (
      below,
      ap unpacked at ∙ sym (get_or-map unpacked list v x y inside) ∙ ap (λ l. get_or l v y) all
          ∙ get_or-map-range_with_len (move_at (object_count m)) 0 (move_count m) v v y below (zero-add v),
    )

pub returns-in_err-entry-clause-value : goal.returns-in_err-entry-clause-value
returns-in_err-entry-clause-value c =
    let self = c.args.self.now in
    let m = scheme_of self in
    let count = ap length c.as_slice.ensures ∙ moves_counted self in
    ap (option_map (λ (u : Use). u.mv)) c.from_residual.ensures
    ∙ sym (cond-false _ _ _ (le-ltb c.args.mv (move_count m) (omega (arith, count, c.in_err-entry.ensures.lookup.3))))

pub invariant_of-result : goal.invariant_of-result
invariant_of-result c =
    let self = c.args.self.now in
    let h = c.in_ok-entry.ensures.lookup in
    let at = listed self c.as_slice.result.now c.args.mv c.in_ok-entry.field-0.now c.as_slice.ensures h.3.0 h.1 in
    record { within = subst (λ (x : Move). InScheme (scheme_of self) x) (sym (c.unpacked.ensures ∙ at.1)) (in_scheme (scheme_of self) c.args.mv at.0) }

pub returns-clause-value : goal.returns-clause-value
returns-clause-value c =
    let self = c.args.self.now in
    let h = c.in_ok-entry.ensures.lookup in
    let at = listed self c.as_slice.result.now c.args.mv c.in_ok-entry.field-0.now c.as_slice.ensures h.3.0 h.1 in
    ap Some (c.unpacked.ensures ∙ at.1) ∙ sym (cond-true _ _ _ (lt-ltb c.args.mv (move_count (scheme_of self)) at.0))
