use Rattle.std.specs.Prelude.{map}
use Rattle.std.proofs.Common.{ap}
use Rattle.aol_csyn.specs.Stored.{tables_of, step_of}
use Rattle.aol_csyn.specs.Text.{tables_text, steps_text, calls_text}
use Rattle.aol_csyn.proofs.Written.{adds_both, adds_as}
use Rattle.aol_csyn.proofs.writing.put_program.Goals as goal

pub returns : goal.returns
returns g c =
    let p = c.args.program.now in
    let tables = adds_as (tables_text 0 (tables_of p.tables)) (ap (λ ts. tables_text 0 (tables_of ts)) c.as_slice.ensures) c.put_tables.ensures in
    let steps = adds_as (steps_text p.workers 0 0 (map step_of p.steps)) (ap (λ ss. steps_text p.workers 0 0 (map step_of ss)) c.as_slice-steps.ensures) c.put_steps.ensures in
    let calls = adds_as (calls_text p.workers 0 0 (map step_of p.steps)) (ap (λ ss. calls_text p.workers 0 0 (map step_of ss)) c.as_slice-steps.ensures) c.put_calls.ensures in
    adds_both (adds_both (adds_both (adds_both (adds_both (adds_both c.put.ensures tables) c.put_arrays.ensures) steps) c.put-2.ensures) calls) c.put-3.ensures
