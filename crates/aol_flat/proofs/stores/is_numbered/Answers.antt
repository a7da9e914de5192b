use Rattle.std.proofs.Common.{rules, ◌≡◌, ◌<◌, ◌≤◌, Bool, not, true, false, nat_eq, length, take, get_or, sym, ◌∙◌, ap}
use Rattle.std.specs.List.{list_any}
use Rattle.aol_model_types.specs.declared.task.Part.{Part}
use Rattle.aol_shape.specs.Lists.{same}
use Rattle.aol_flat.proofs.Storing.{numbered_there, numbered_past, false_left, true_left}
use Rattle.aol_flat.proofs.stores.is_numbered.Goals as goal

pub returns-then-is_same : goal.returns-then-is_same
returns-then-is_same c =
    let test : Part → Bool = λ p. same p.name c.args.name.now in
    let lt : c.args.number < length c.args.parts.now = search rules in
    let at : c.in-Some.part.now ≡ get_or c.args.parts.now c.args.number c.in-Some.part.now = search rules in
    let passes : test c.in-Some.part.now ≡ true = search rules in
    let any : c.any_named.result ≡ list_any test (take c.args.number c.args.parts.now) = search rules in
    ap not any ∙ sym (numbered_there test c.args.parts.now c.args.number c.in-Some.part.now lt ∙ true_left (test (get_or c.args.parts.now c.args.number c.in-Some.part.now)) _ (ap test (sym at) ∙ passes))

pub returns-else-is_same : goal.returns-else-is_same
returns-else-is_same c =
    let test : Part → Bool = λ p. same p.name c.args.name.now in
    let lt : c.args.number < length c.args.parts.now = search rules in
    let at : c.in-Some.part.now ≡ get_or c.args.parts.now c.args.number c.in-Some.part.now = search rules in
    let fails : test c.in-Some.part.now ≡ false = search rules in
    let is : c.is_same.result ≡ false = search rules in
    is ∙ sym (numbered_there test c.args.parts.now c.args.number c.in-Some.part.now lt ∙ false_left (test (get_or c.args.parts.now c.args.number c.in-Some.part.now)) _ (ap test (sym at) ∙ fails))

pub returns-then-number-parts : goal.returns-then-number-parts
returns-then-number-parts c =
    let test : Part → Bool = λ p. same p.name c.args.name.now in
    let past : length c.args.parts.now ≤ c.args.number = search rules in
    let any : c.any_named-then-number-parts.result ≡ list_any test c.args.parts.now = search rules in
    let equal : nat_eq c.args.number (length c.args.parts.now) ≡ true = search rules in
    ap not any ∙ sym (numbered_past test c.args.parts.now c.args.number past ∙ true_left (nat_eq c.args.number (length c.args.parts.now)) _ equal)

pub returns-else-number-parts : goal.returns-else-number-parts
returns-else-number-parts c =
    let test : Part → Bool = λ p. same p.name c.args.name.now in
    let past : length c.args.parts.now ≤ c.args.number = search rules in
    let differ : nat_eq c.args.number (length c.args.parts.now) ≡ false = search rules in
    differ ∙ sym (numbered_past test c.args.parts.now c.args.number past ∙ false_left (nat_eq c.args.number (length c.args.parts.now)) _ differ)
