-- A step that is right on the closed net is right on the net.
use Rattle.std.proofs.Common.{◌≡◌, ℕ, List}
use Rattle.aol_model_types.specs.declared.document.Model.{Model}
use Rattle.aol_flat.specs.Net.{Net, Memory}
use Rattle.aol_csyn.specs.Meaning.{Arrays}
use Rattle.aol_csyn.specs.Tree.{Program}
use Rattle.aol_cgen_laws.specs.Emitted.{IsOfStep, IsBelow, IsReadyFor, StepIsRight}
use Rattle.aol_cgen_flow.specs.Flow.{closed}

module _ (net : Net) (levels workers : List ℕ) where
  to_closed : (level worker c : ℕ) → IsOfStep net levels workers level worker c → IsOfStep (closed net) levels workers level worker c
  to_closed level worker c o = record { instance = o.instance; place = o.place; at_level = o.at_level; at_worker = o.at_worker; writes = o.writes }

  of_closed : (level worker c : ℕ) → IsOfStep (closed net) levels workers level worker c → IsOfStep net levels workers level worker c
  of_closed level worker c o = record { instance = o.instance; place = o.place; at_level = o.at_level; at_worker = o.at_worker; writes = o.writes }

  pub ready_closed : (m : Model) (cells inputs level : ℕ) (mem : Memory) (a : Arrays) → IsReadyFor m net levels cells inputs level mem a → IsReadyFor m (closed net) levels cells inputs level mem a
  ready_closed m cells inputs level mem a r = record {
    v_length = r.v_length;
    f_length = r.f_length;
    main_inputs = r.main_inputs;
    lower = λ c b. r.lower c (record { instance = b.instance; place = b.place; own_level = b.own_level; at_level = b.at_level; below = b.below; writes = b.writes });
  }

  pub right_of_closed : (m : Model) (p : Program) (level worker : ℕ) (mem : Memory) (a : Arrays) → StepIsRight m (closed net) levels workers p level worker mem a → StepIsRight m net levels workers p level worker mem a
  right_of_closed m p level worker mem a r = record {
    step = r.step;
    is_step = r.is_step;
    end = r.end;
    runs = r.runs;
    puts_v = λ c. (λ h. of_closed level worker c ((r.puts_v c).0 h), λ h. (r.puts_v c).1 (to_closed level worker c h));
    puts_f = λ c. (λ h. of_closed level worker c ((r.puts_f c).0 h), λ h. (r.puts_f c).1 (to_closed level worker c h));
    v_length = r.v_length;
    f_length = r.f_length;
    own = λ c h. r.own c (to_closed level worker c h);
    others = λ c h. r.others c (λ o. h (of_closed level worker c o));
  }
