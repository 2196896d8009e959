use Rattle.std.proofs.Common.{◌≡◌, cond, ◌&&◌, map, length, Some, None, sym, ap, ◌∙◌, zero-add}
use Rattle.std.proofs.lemmas.List.{length-map}
use Rattle.std.proofs.lemmas.Bool.{cond-false, and_left, ne_eqb, eq-eqb}
use Rattle.bounded.specs.Items.{items}
use Rattle.codes.specs.Meanings.{object_of}
use Rattle.record.specs.States.{all_fit, number}
use Rattle.record.specs.Numberings.{dimensions_of, state_of, summed_from}
use Rattle.record.proofs.numbering.Numbering.number.Goals as goal

pub returns-then-objects-as_slice : goal.returns-then-objects-as_slice
returns-then-objects-as_slice c =
    let long : length (state_of c.args.state.now) ≡ length c.as_slice-objects.result.now =
    length-map (items c.args.state.now) object_of ∙ ap length (sym c.as_slice-objects.ensures) in
    sym (cond-false _ _ _ (and_left _ _ (ne_eqb _ _ (λ e. c.if-objects-as_slice.true (sym long ∙ e ∙ ap length (sym c.as_slice.ensures))))))

pub returns : goal.returns
returns c =
    let d = dimensions_of c.args.self.now in
    let t = state_of c.args.state.now in
    let long : length t ≡ d.objects =
    length-map (items c.args.state.now) object_of ∙ ap length (sym c.as_slice-objects.ensures) ∙ c.if-objects-as_slice.false ∙ ap length c.as_slice.ensures in
    c.sum_codes.ensures
    ∙ ap (λ l. summed_from 0 0 d.sizes (map object_of l)) c.as_slice-objects.ensures
    ∙ ap (λ k. cond (all_fit d.sizes t) (Some k) None) (zero-add (number d.sizes t))
    ∙ sym (ap (λ b. cond (b && all_fit d.sizes t) (Some (number d.sizes t)) None) (eq-eqb (length t) d.objects long))
