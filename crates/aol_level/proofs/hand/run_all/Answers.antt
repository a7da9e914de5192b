use Rattle.std.proofs.Common.{◌≡◌, ◌<◌, ℕ, flat_map, take, length, ◌∙◌, ap, sym, arith, refl}
use Rattle.std.proofs.lemmas.List.{take_all}
use Rattle.std.proofs.lemmas.List.Elements.{All-take}
use Rattle.aol_flat.specs.Instance.{instances}
use Rattle.aol_flat.specs.Laid.{Laid}
use Rattle.aol_flat.specs.Net.{Net, IsNetOf, writes_at}
use Rattle.aol_flat.specs.Accept.{IsFlat}
use Rattle.aol_level.specs.Parts.{puts_at, AreInstances}
use Rattle.aol_level.specs.Puts.{put_from}
use Rattle.aol_level.specs.declared.kept.Kept.{Kept}
use Rattle.std.specs.Prelude.{List, Option}
use Rattle.aol_level.proofs.Lists.{has_all}
use Rattle.aol_level.proofs.Nets.{puts_many}
use Rattle.aol_level.proofs.Running.{room_next, place_next, values_next, flat_lengths, put_all}
use Rattle.aol_level.proofs.hand.run_all.Goals as goal

-- as many values as cells
as_many : (f : Laid) → IsFlat f → (net : Net) → IsNetOf f net → (cells : List (Option Kept)) (worker : ℕ) (js : List ℕ) → AreInstances f js → length (flat_map (puts_at net cells worker) js) ≡ length (flat_map (writes_at net) js)
as_many f flat net is_net cells worker js within =
    flat_lengths (puts_at net cells worker) (writes_at net) js (λ j a. puts_many f flat net is_net j (has_all (λ k. k < length (instances f.model)) js j within a) cells worker)

pub run_instance-place-requires-clause-room : goal.run_instance-place-requires-clause-room
run_instance-place-requires-clause-room c = λ net is_net.
    let inv = c.loop-number.invariant in
    omega (arith, inv.place net is_net, room_next (writes_at net) c.args.numbers.now c.loop-number.number-index c.loop-number-test.true, ap length inv.cells, ap length (c.requires.cells net is_net))

pub overflow_add-place : goal.overflow_add-place
overflow_add-place c =
    let inv = c.loop-number.invariant in
    let n = c.requires.net in
    omega (arith, inv.place n.0 n.1, room_next (writes_at n.0) c.args.numbers.now c.loop-number.number-index c.loop-number-test.true, ap length (c.requires.cells n.0 n.1), c.run_instance-place.ensures.many n.0 n.1, c.requires.few)

pub loop-number-preserved : goal.loop-number-preserved
loop-number-preserved c =
    let inv = c.loop-number.invariant in
    let js = c.args.numbers.now in
    let i = c.loop-number.number-index in
    let f = c.args.flat.now in
    let run = c.run_instance-place.ensures in
    record {
      hand = run.hand;
      name = run.same.0 ∙ inv.name;
      cells = run.same.1 ∙ inv.cells;
      place = λ net is_net. place_next (writes_at net) js i c.loop-number-test.true c.loop-number.place c.run_instance-place.result _ (inv.place net is_net) (run.many net is_net) refl;
      values = λ net is_net.
          values_next (puts_at net c.args.rest.now.cells c.args.worker) js i c.loop-number.place c.args.share.now.values c.loop-number.share.values c.run_instance-place.new.share.values c.loop-number-test.true
          (inv.place net is_net ∙ sym (as_many f c.model-model.ensures.flat net is_net c.args.rest.now.cells c.args.worker (take i js) (All-take (λ j. j < length (instances f.model)) i js c.requires.within)))
          (inv.values net is_net) (run.values net is_net);
    }

pub returns-clause-values : goal.returns-clause-values
returns-clause-values c = λ net is_net.
    let f = c.args.flat.now in
    let js = c.args.numbers.now in
    let g = puts_at net c.args.rest.now.cells c.args.worker in
    let all : take c.loop-number.number-index js ≡ js = take_all c.loop-number.number-index js (omega (arith, c.loop-number-test.false)) in
    let many : length (flat_map g js) ≡ length c.args.share.now.values =
    as_many f c.model-model.ensures.flat net is_net c.args.rest.now.cells c.args.worker js c.requires.within ∙ sym (c.requires.as_many ∙ ap length (c.requires.cells net is_net)) in
    c.loop-number.invariant.values net is_net ∙ (ap (λ ks. put_from c.args.share.now.values 0 (flat_map g ks)) all ∙ put_all c.args.share.now.values (flat_map g js) many)
