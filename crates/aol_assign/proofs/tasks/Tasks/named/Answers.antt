use Rattle.std.proofs.Common.{◌≡◌, length, get_or, sym, ◌∙◌, ap, arith}
use Rattle.aol_flat.proofs.TaskNumbers.{found, none_from}
use Rattle.aol_flat.proofs.Among.{among_get}
use Rattle.aol_assign.proofs.tasks.Tasks.named.Goals as goal

pub bounds-as_slice-number : goal.bounds-as_slice-number
bounds-as_slice-number c =
    let m = c.args.self.now.model.now in
    let f = found m.tasks c.args.name.now c.in-Some.number (sym (c.number_named.ensures m.tasks c.args.self.now.found) ∙ c.in-Some.is) in
    let many : length c.as_slice.result.now ≡ length m.tasks = ap length c.as_slice.ensures in
    omega (arith, f.within, many)

pub returns-in-None : goal.returns-in-None
returns-in-None c =
    let m = c.args.self.now.model.now in
    sym (none_from 0 m.tasks c.args.name.now (sym (c.number_named.ensures m.tasks c.args.self.now.found) ∙ c.in-None.is))

pub returns-in-Some : goal.returns-in-Some
returns-in-Some c =
    let m = c.args.self.now.model.now in
    let f = found m.tasks c.args.name.now c.in-Some.number (sym (c.number_named.ensures m.tasks c.args.self.now.found) ∙ c.in-Some.is) in
    let t = c.index-as_slice-number.result in
    let is : t ≡ get_or m.tasks c.in-Some.number t = c.index-as_slice-number.is ∙ ap (λ ts. get_or ts c.in-Some.number t) c.as_slice.ensures in
    sym (among_get m.tasks c.in-Some.number t f.within is) ∙ (f.at ∙ sym f.is)
