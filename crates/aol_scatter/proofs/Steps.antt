-- The steps and words that the walks of src/part.rt cite.
pub use mathlib.Core.Path.{◌≡◌, refl, sym, ap, subst, ◌∙◌}
pub use mathlib.Core.Bool.{true, false}
pub use mathlib.Core.List.{List, [], ◌∷◌, ◌++◌}
pub use Prim.Native.Nat.{ℕ, ◌+◌, ◌*◌, ◌<◌, ◌^◌}
pub use native.Mathlib.Omega.{arith}
pub use lib.Dec.{lit<}
pub use lib.ListN.{length, set, get_or, replicate, length-set, length-replicate}
pub use base.Fraction.{full_share}
pub use base.Logic.{SProp, emp, never, id⊢}
pub use base.Fml.{Fml, ftrue, fsep, fat, froom, flft}
pub use mir.Syntax.{Ty, Fn, Args, named, w64, a_type, ty_array}
pub use mir.MapTy.{inst_fn}
pub use mir.Val.{Val, vptr, vint, vunit, vcons, vnil}
pub use prog.Wp.{Env, WpFn}
pub use contract.Monad.{fact, fact_i}
pub use contract.Running.{tables}
pub use types.Kit.{‵, raw, ◌⊛◌, prop, at_ret, ◌$◌, ◌∵◌, !, qed, by, move, keep, drop, use0, use1, use2, use3, split, join, rewrite, regoal, fsplit, fsplit3, fjoin, fjoin3, feq_i, feq_l, flt_i, flt_l, given, later, learn, await, group}
pub use types.Part.{agg, whole, sub}
pub use types.Run.{stop, fld, lit, unit_lit, of_opd, bin, addr, size_lit, and_then, no_more, first, blocks, exec, init, assigns_last, returns, enter}
pub use types.ByLocal.{alloc_all, pass_all, free_all, look_at, get, get_in, through, sets, sets_last, take_at, give_at, env}
pub use denote.Exit.{yes, no}
pub use denote.RattleType.{RattleType, owns}
pub use denote.Builtin.{RefOf, SliceRefOf, usize, u32, unit}
pub use denote.Opens.{hide, unhide}
pub use denote.Param.{layout}
pub use denote.RawPtr.{Ptr, in_a_block}
pub use denote.Signature.{plain, types_at}
pub use denote.Steps.{nothing, heard, opens, closes}
pub use denote.Triple.Walked.{Stays, stay_dropped, stay_ref, walk_of, Goes-dropped, Goes-ref}
pub use Rattle.core.proofs.alloc.Calls.{Goes-blank}
pub use Rattle.core.proofs.alloc.Shapes.{after}
pub use Rattle.core.proofs.mem.Param.{El, R, elτ, args}
pub use Rattle.core.proofs.ptr.Rows.{one_below, times_below}
pub use Rattle.std_alloc.proofs.RcSteps.{word, word-Good}
pub use Rattle.std.proofs.raw_atomic.Walks.{proved_at, leaves}
