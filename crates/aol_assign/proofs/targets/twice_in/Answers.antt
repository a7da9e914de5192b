use Rattle.std.proofs.Common.{◌≡◌, map, get_or, true, false, Option, Some, None, slice_get, is_some, sym, ◌∙◌, ap, refl}
use Rattle.aol_model_types.specs.declared.task.Part.{Part}
use Rattle.aol_model_types.specs.declared.task.Task.{Task}
use Rattle.aol_model_types.specs.declared.task.Task.TheVariants as tasks
use Rattle.aol_model_types.specs.Rules.{inputs_named, task_named}
use Rattle.aol_model_types.specs.declared.document.Model.{Model}
use Rattle.aol_flat.specs.Node.{Node}
use Rattle.aol_flat.specs.Targets.{node_targets, output_target}
use Rattle.aol_assign.specs.declared.targets.Found.{Found}
use Rattle.aol_assign.proofs.FirstFound.{if_ok_as, of_number}
use Rattle.aol_flat.proofs.Among.{among_get}
use Rattle.aol_assign.specs.Found.{found_in, ReshapesFit, TilersFit}
use Rattle.aol_assign.proofs.Fitting.{each_among, part_reshapes_fit, own_reshapes_fit, tilers_fit, inner_there}
use Rattle.aol_assign.proofs.targets.twice_in.Goals as goal

pub twice_in_compound-requires-clause-parts : goal.twice_in_compound-requires-clause-parts
twice_in_compound-requires-clause-parts c =
    let m = c.args.from.model.now in
    let t = c.index-as_slice-number.result in
    let is : t ≡ get_or m.tasks c.args.number t = c.index-as_slice-number.is ∙ ap (λ ts. get_or ts c.args.number t) c.as_slice.ensures in
    let at : slice_get m.tasks c.args.number ≡ Some (tasks.Compound c.in-Compound.task) = among_get m.tasks c.args.number t c.requires.within is ∙ ap Some c.in-Compound.is in
    each_among (λ (p : Part). ReshapesFit c.in-Compound.task (Some p.name) (inputs_named m.tasks p.task)) c.in-Compound.task.parts
    (part_reshapes_fit m c.requires.sound c.args.number c.in-Compound.task at)

pub twice_in_compound-requires-clause-own : goal.twice_in_compound-requires-clause-own
twice_in_compound-requires-clause-own c =
    let m = c.args.from.model.now in
    let t = c.index-as_slice-number.result in
    let is : t ≡ get_or m.tasks c.args.number t = c.index-as_slice-number.is ∙ ap (λ ts. get_or ts c.args.number t) c.as_slice.ensures in
    let at : slice_get m.tasks c.args.number ≡ Some (tasks.Compound c.in-Compound.task) = among_get m.tasks c.args.number t c.requires.within is ∙ ap Some c.in-Compound.is in
    own_reshapes_fit m c.requires.sound c.args.number c.in-Compound.task at

pub twice_in_repeated-requires-clause-fits : goal.twice_in_repeated-requires-clause-fits
twice_in_repeated-requires-clause-fits c =
    let m = c.args.from.model.now in
    let t = c.index-as_slice-number.result in
    let is : t ≡ get_or m.tasks c.args.number t = c.index-as_slice-number.is ∙ ap (λ ts. get_or ts c.args.number t) c.as_slice.ensures in
    let at : slice_get m.tasks c.args.number ≡ Some (tasks.Repeated c.in-Repeated.task) = among_get m.tasks c.args.number t c.requires.within is ∙ ap Some c.in-Repeated.is in
    each_among (TilersFit c.in-Repeated.task c.in-Some.inner.now) c.in-Repeated.task.outs
    (tilers_fit m c.requires.sound c.args.number c.in-Repeated.task at c.in-Some.inner.now (sym c.in-Some.ensures))

pub returns-in-Elementary : goal.returns-in-Elementary
returns-in-Elementary c node t h =
    let m = c.args.from.model.now in
    let u = c.index-as_slice-number.result in
    let is : u ≡ get_or m.tasks c.args.number u = c.index-as_slice-number.is ∙ ap (λ ts. get_or ts c.args.number u) c.as_slice.ensures in
    let at : slice_get m.tasks c.args.number ≡ Some (tasks.Elementary c.in-Elementary.field-0) = among_get m.tasks c.args.number u c.requires.within is ∙ ap Some c.in-Elementary.is in
    of_number m c.args.number (tasks.Elementary c.in-Elementary.field-0) node t at h None refl

pub returns-in-Compound : goal.returns-in-Compound
returns-in-Compound c =
    let m = c.args.from.model.now in
    let u = c.index-as_slice-number.result in
    let is : u ≡ get_or m.tasks c.args.number u = c.index-as_slice-number.is ∙ ap (λ ts. get_or ts c.args.number u) c.as_slice.ensures in
    let at : slice_get m.tasks c.args.number ≡ Some (tasks.Compound c.in-Compound.task) = among_get m.tasks c.args.number u c.requires.within is ∙ ap Some c.in-Compound.is in
    if_ok_as (λ (r : Option Found). (node : Node) → r ≡ found_in (node_targets m (node, tasks.Compound c.in-Compound.task)))
    (λ (r : Option Found). (node : Node) (t : Task) → slice_get m.tasks c.args.number ≡ Some t → r ≡ found_in (node_targets m (node, t)))
    c.twice_in_compound.result (λ r e node t h. of_number m c.args.number (tasks.Compound c.in-Compound.task) node t at h r (e node)) c.twice_in_compound.ensures

pub returns-in-None : goal.returns-in-None
returns-in-None c node t h =
    let m = c.args.from.model.now in
    let u = c.index-as_slice-number.result in
    let is : u ≡ get_or m.tasks c.args.number u = c.index-as_slice-number.is ∙ ap (λ ts. get_or ts c.args.number u) c.as_slice.ensures in
    let at : slice_get m.tasks c.args.number ≡ Some (tasks.Repeated c.in-Repeated.task) = among_get m.tasks c.args.number u c.requires.within is ∙ ap Some c.in-Repeated.is in
    let no : false ≡ true = ap is_some c.in-None.ensures ∙ inner_there m c.requires.sound c.args.number c.in-Repeated.task at in
    cc

pub returns-in-Some : goal.returns-in-Some
returns-in-Some c =
    let m = c.args.from.model.now in
    let u = c.index-as_slice-number.result in
    let is : u ≡ get_or m.tasks c.args.number u = c.index-as_slice-number.is ∙ ap (λ ts. get_or ts c.args.number u) c.as_slice.ensures in
    let at : slice_get m.tasks c.args.number ≡ Some (tasks.Repeated c.in-Repeated.task) = among_get m.tasks c.args.number u c.requires.within is ∙ ap Some c.in-Repeated.is in
    let inner : task_named m.tasks c.in-Repeated.task.task ≡ Some c.in-Some.inner.now = sym c.in-Some.ensures in
    if_ok_as
    (λ (r : Option Found). (o : Model) (node : Node) → task_named o.tasks c.in-Repeated.task.task ≡ Some c.in-Some.inner.now → r ≡ found_in (map (output_target o node c.in-Repeated.task) c.in-Repeated.task.outs))
    (λ (r : Option Found). (node : Node) (t : Task) → slice_get m.tasks c.args.number ≡ Some t → r ≡ found_in (node_targets m (node, t)))
    c.twice_in_repeated.result (λ r e node t h. of_number m c.args.number (tasks.Repeated c.in-Repeated.task) node t at h r (e m node inner)) c.twice_in_repeated.ensures
