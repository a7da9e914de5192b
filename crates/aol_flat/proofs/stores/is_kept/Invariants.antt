use Rattle.std.proofs.Common.{◌≡◌, ◌&&◌, is_none, find, drop}
use Rattle.aol_model_types.specs.declared.task.Plain.{Plain}
use Rattle.aol_flat.specs.Home.{is_part_end, link_up}
use Rattle.aol_flat.proofs.stores.is_kept.Given as goal

abbrev pub invariant-loop-link : goal.invariant-loop-link
invariant-loop-link l = is_none (link_up l.task l.number l.port) ≡ is_none (find (λ (link : Plain). is_part_end l.task l.number l.port link.from && is_none link.to.part) (drop l.link-index l.task.links))
