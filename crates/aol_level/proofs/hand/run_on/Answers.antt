use Rattle.std.proofs.Common.{map, length, ◌∙◌, ap, sym, arith}
use Rattle.aol_model_types.specs.declared.document.Model.{Model}
use Rattle.aol_model_types.specs.declared.task.Task.TheVariants as tasks
use Rattle.aol_flat.specs.Instance.{instances}
use Rattle.aol_flat.specs.InstanceValue.{instance_outputs}
use Rattle.aol_flat.specs.Tasks.{elementary_number}
use Rattle.aol_flat.specs.declared.view.Read.TheVariants.{Cell}
use Rattle.aol_level.specs.Puts.{kept_by, put_from, value_held}
use Rattle.aol_level.proofs.Lists.{get_within}
use Rattle.aol_level.proofs.Matched.{not_none, not_other, is_ready, few_outs, all_writes, same_outputs}
use Rattle.aol_level.proofs.Nets.{reads_are, run_puts, copy_puts}
use Rattle.aol_level.proofs.Running.{single}
use Rattle.aol_level.proofs.Working.{run_of, copy_of}
use Rattle.aol_level.proofs.hand.run_on.Goals as goal

pub bounds-as_slice-task : goal.bounds-as_slice-task
bounds-as_slice-task c =
    let r = run_of c.args.flat.now.model c.args.leaf c.args.instance c.leaf.result.now c.leaf.ensures c.requires.leaf c.model-model.ensures.flat.sound c.in-Elementary.task c.in-Elementary.is in
    omega (arith, get_within c.args.flat.now.model.tasks c.in-Elementary.task (tasks.Elementary r.task) r.listed, ap length (c.as_slice.ensures ∙ ap (λ (m : Model). m.tasks) c.model-model.ensures.same))

pub bounds-ready-task : goal.bounds-ready-task
bounds-ready-task c =
    let r = run_of c.args.flat.now.model c.args.leaf c.args.instance c.leaf.result.now c.leaf.ensures c.requires.leaf c.model-model.ensures.flat.sound c.in-Elementary.task c.in-Elementary.is in
    omega (arith, get_within c.args.flat.now.model.tasks c.in-Elementary.task (tasks.Elementary r.task) r.listed, c.requires.ready.many)

pub returns-in_default-clause-many : goal.returns-in_default-clause-many
returns-in_default-clause-many c =
    let r = run_of c.args.flat.now.model c.args.leaf c.args.instance c.leaf.result.now c.leaf.ensures c.requires.leaf c.model-model.ensures.flat.sound c.in-Elementary.task c.in-Elementary.is in
    absurd (not_none c.args.flat.now.model c.as_slice.result.now c.args.ready.now c.args.leaf c.args.instance c.in-Elementary.task r (c.as_slice.ensures ∙ ap (λ (m : Model). m.tasks) c.model-model.ensures.same) c.requires.ready
    c.index-as_slice-task.result c.index-ready-task.result c.index-as_slice-task.is c.index-ready-task.is c.in_default.is-1)

pub returns-in_default-clause-values : goal.returns-in_default-clause-values
returns-in_default-clause-values c =
    let r = run_of c.args.flat.now.model c.args.leaf c.args.instance c.leaf.result.now c.leaf.ensures c.requires.leaf c.model-model.ensures.flat.sound c.in-Elementary.task c.in-Elementary.is in
    absurd (not_none c.args.flat.now.model c.as_slice.result.now c.args.ready.now c.args.leaf c.args.instance c.in-Elementary.task r (c.as_slice.ensures ∙ ap (λ (m : Model). m.tasks) c.model-model.ensures.same) c.requires.ready
    c.index-as_slice-task.result c.index-ready-task.result c.index-as_slice-task.is c.index-ready-task.is c.in_default.is-1)

pub returns-in_default-2 : goal.returns-in_default-2
returns-in_default-2 c =
    let r = run_of c.args.flat.now.model c.args.leaf c.args.instance c.leaf.result.now c.leaf.ensures c.requires.leaf c.model-model.ensures.flat.sound c.in-Elementary.task c.in-Elementary.is in
    absurd (not_other c.args.flat.now.model c.as_slice.result.now c.args.ready.now c.args.leaf c.args.instance c.in-Elementary.task r (c.as_slice.ensures ∙ ap (λ (m : Model). m.tasks) c.model-model.ensures.same) c.requires.ready
    c.index-as_slice-task.result c.index-ready-task.result c.index-as_slice-task.is c.index-ready-task.is c.in_default.not-Elementary-0)

pub run_elementary-requires-clause-ready : goal.run_elementary-requires-clause-ready
run_elementary-requires-clause-ready c =
    let r = run_of c.args.flat.now.model c.args.leaf c.args.instance c.leaf.result.now c.leaf.ensures c.requires.leaf c.model-model.ensures.flat.sound c.in-Elementary.task c.in-Elementary.is in
    is_ready c.args.flat.now.model c.as_slice.result.now c.args.ready.now c.args.leaf c.args.instance c.in-Elementary.task r (c.as_slice.ensures ∙ ap (λ (m : Model). m.tasks) c.model-model.ensures.same) c.requires.ready
    c.index-as_slice-task.result c.index-ready-task.result c.index-as_slice-task.is c.index-ready-task.is c.in-Elementary-Some.elementary c.in-Elementary-Some.ready c.in-Elementary-Some.is-0 c.in-Elementary-Some.is-1

pub run_elementary-requires-clause-outs : goal.run_elementary-requires-clause-outs
run_elementary-requires-clause-outs c =
    let r = run_of c.args.flat.now.model c.args.leaf c.args.instance c.leaf.result.now c.leaf.ensures c.requires.leaf c.model-model.ensures.flat.sound c.in-Elementary.task c.in-Elementary.is in
    few_outs c.args.flat.now.model c.as_slice.result.now c.args.ready.now c.args.leaf c.args.instance c.in-Elementary.task r (c.as_slice.ensures ∙ ap (λ (m : Model). m.tasks) c.model-model.ensures.same) c.requires.ready
    c.index-as_slice-task.result c.index-ready-task.result c.index-as_slice-task.is c.index-ready-task.is c.in-Elementary-Some.elementary c.in-Elementary-Some.ready c.in-Elementary-Some.is-0 c.in-Elementary-Some.is-1

pub run_elementary-requires-clause-room : goal.run_elementary-requires-clause-room
run_elementary-requires-clause-room c =
    let r = run_of c.args.flat.now.model c.args.leaf c.args.instance c.leaf.result.now c.leaf.ensures c.requires.leaf c.model-model.ensures.flat.sound c.in-Elementary.task c.in-Elementary.is in
    let writes = all_writes c.args.flat.now.model c.as_slice.result.now c.args.ready.now c.args.leaf c.args.instance c.in-Elementary.task r (c.as_slice.ensures ∙ ap (λ (m : Model). m.tasks) c.model-model.ensures.same) c.requires.ready
    c.index-as_slice-task.result c.index-ready-task.result c.index-as_slice-task.is c.index-ready-task.is c.in-Elementary-Some.elementary c.in-Elementary-Some.ready c.in-Elementary-Some.is-0 c.in-Elementary-Some.is-1 in
    omega (arith, writes, c.requires.room)

pub returns-in-Elementary-Some-clause-many : goal.returns-in-Elementary-Some-clause-many
returns-in-Elementary-Some-clause-many c =
    let r = run_of c.args.flat.now.model c.args.leaf c.args.instance c.leaf.result.now c.leaf.ensures c.requires.leaf c.model-model.ensures.flat.sound c.in-Elementary.task c.in-Elementary.is in
    let same = c.as_slice.ensures ∙ ap (λ (m : Model). m.tasks) c.model-model.ensures.same in
    let ready = is_ready c.args.flat.now.model c.as_slice.result.now c.args.ready.now c.args.leaf c.args.instance c.in-Elementary.task r same c.requires.ready
    c.index-as_slice-task.result c.index-ready-task.result c.index-as_slice-task.is c.index-ready-task.is c.in-Elementary-Some.elementary c.in-Elementary-Some.ready c.in-Elementary-Some.is-0 c.in-Elementary-Some.is-1 in
    let writes = all_writes c.args.flat.now.model c.as_slice.result.now c.args.ready.now c.args.leaf c.args.instance c.in-Elementary.task r same c.requires.ready
    c.index-as_slice-task.result c.index-ready-task.result c.index-as_slice-task.is c.index-ready-task.is c.in-Elementary-Some.elementary c.in-Elementary-Some.ready c.in-Elementary-Some.is-0 c.in-Elementary-Some.is-1 in
    ready.count ∙ sym writes

pub returns-in-Elementary-Some-clause-values : goal.returns-in-Elementary-Some-clause-values
returns-in-Elementary-Some-clause-values c = λ net is_net.
    let f = c.args.flat.now in
    let r = run_of f.model c.args.leaf c.args.instance c.leaf.result.now c.leaf.ensures c.requires.leaf c.model-model.ensures.flat.sound c.in-Elementary.task c.in-Elementary.is in
    let low = get_within (instances f.model) c.args.instance r.instance r.at in
    let reads = reads_are f c.model-model.ensures.flat net is_net c.args.instance low c.args.reads.now c.requires.reads in
    let outputs = same_outputs f.model c.as_slice.result.now c.args.ready.now c.args.leaf c.args.instance c.in-Elementary.task r (c.as_slice.ensures ∙ ap (λ (m : Model). m.tasks) c.model-model.ensures.same) c.requires.ready
    c.index-as_slice-task.result c.index-ready-task.result c.index-as_slice-task.is c.index-ready-task.is c.in-Elementary-Some.elementary c.in-Elementary-Some.ready c.in-Elementary-Some.is-0 c.in-Elementary-Some.is-1
    (map (value_held c.args.rest.now.cells) c.args.reads.now) in
    c.run_elementary.ensures.values
    ∙ ap (λ xs. put_from c.args.share.now.values c.args.place (map (kept_by c.args.worker) xs))
    (sym outputs ∙ ap (λ rs. instance_outputs (elementary_number f.model r.task.name) r.task (map (value_held c.args.rest.now.cells) rs)) reads)
    ∙ ap (put_from c.args.share.now.values c.args.place) (sym (run_puts f c.model-model.ensures.flat net is_net c.args.instance low c.args.rest.now.cells c.args.worker c.args.leaf c.in-Elementary.task r))

pub returns-in-Copy-clause-values : goal.returns-in-Copy-clause-values
returns-in-Copy-clause-values c = λ net is_net.
    let f = c.args.flat.now in
    let r = copy_of f.model c.args.leaf c.args.instance c.leaf.result.now c.leaf.ensures c.requires.leaf c.in-Copy.is in
    let low = get_within (instances f.model) c.args.instance r.instance r.at in
    let reads = reads_are f c.model-model.ensures.flat net is_net c.args.instance low c.args.reads.now c.requires.reads in
    let one = single c.args.reads.now (Cell 0) (c.requires.many ∙ r.reads) in
    c.run_copy.ensures.values
    ∙ ap (λ rs. put_from c.args.share.now.values c.args.place (map (kept_by c.args.worker) (map (value_held c.args.rest.now.cells) rs))) (sym one ∙ reads)
    ∙ ap (put_from c.args.share.now.values c.args.place) (sym (copy_puts f c.model-model.ensures.flat net is_net c.args.instance low c.args.rest.now.cells c.args.worker c.args.leaf r))
