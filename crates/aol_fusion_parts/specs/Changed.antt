-- The compound of two fused parts.
use Rattle.std.specs.Prelude.{ℕ, Bool, ◌&&◌, ◌||◌, not, List, [], ◌∷◌, ◌++◌, map, flat_map, length, Some, if◌then◌else◌}
use Rattle.std.specs.List.{list_all}
use Rattle.aol_shape.specs.Lists.{same}
use Rattle.aol_expr_tree.specs.declared.port.Port.{Port}
use Rattle.aol_reshape.specs.declared.reshape.Reshape.{Reshape}
use Rattle.aol_model_types.specs.declared.job.FuseArgs.{FuseArgs}
use Rattle.aol_model_types.specs.declared.task.Compound.{Compound}
use Rattle.aol_model_types.specs.declared.task.Copied.{Copied}
use Rattle.aol_model_types.specs.declared.task.Hook.{Hook}
use Rattle.aol_model_types.specs.declared.task.Part.{Part}
use Rattle.aol_model_types.specs.declared.task.Plain.{Plain}
use Rattle.aol_model_types.specs.declared.task.Repeated.{Repeated}
use Rattle.aol_change.specs.declared.tasks.Side.TheVariants.{Inputs, Outputs}
use Rattle.aol_fusion_parts.specs.Joined.{is_end_of, is_joint}
use Rattle.aol_fusion_parts.specs.Ports.{name_among}

-- the first part goes where all plain links and reshapes from it are plain links to the second
abbrev pub first_goes : FuseArgs → Compound → Bool
first_goes args c =
    list_all (λ (l : Plain). not (is_end_of args.first l.from) || is_end_of args.second l.to) c.links
    && list_all (λ (r : Copied). not (is_end_of args.first r.from)) c.reshapes

-- where a link begins: at the second part, at the fused repetition's port
abbrev pub changed_from : FuseArgs → Repeated → Hook → Hook
changed_from args two h = if is_end_of args.second h then record { part = h.part; port = name_among Outputs 0 two.outs h.port } else h

-- where a link ends that isn't at the first part: at the second part, at the fused repetition's port
abbrev pub moved_to : FuseArgs → Repeated → List Port → Hook → Hook
moved_to args one unjoined h = if is_end_of args.second h then record { part = h.part; port = name_among Inputs (length one.ins) unjoined h.port } else h

-- the fused repetition's port for one of the first part
abbrev pub second_to : FuseArgs → Repeated → Hook → Hook
second_to args one h = record { part = Some args.second; port = name_among Inputs 0 one.ins h.port }

-- where a link ends: at an input of the first part, where that part stays, and then at the fused repetition's port for it; else where it did
abbrev pub changed_to : FuseArgs → Repeated → List Port → Bool → Hook → List Hook
changed_to args one unjoined goes h =
    if is_end_of args.first h then (if goes then [] else h ∷ []) ++ second_to args one h ∷ [] else moved_to args one unjoined h ∷ []

-- a plain link, and a reshape, from this end to another
abbrev pub plain_to : Hook → Hook → Plain
plain_to from to = record { from = from; to = to }

abbrev pub copied_to : Hook → Reshape → Hook → Copied
copied_to from by to = record { from = from; to = to; by = by }

-- the links in place of one: none where it joins the two parts
abbrev pub changed_link : FuseArgs → Repeated → Repeated → List Port → Bool → Plain → List Plain
changed_link args one two unjoined goes l =
    if is_joint args l then [] else map (plain_to (changed_from args two l.from)) (changed_to args one unjoined goes l.to)

-- the reshapes in place of one
abbrev pub changed_reshape : FuseArgs → Repeated → Repeated → List Port → Bool → Copied → List Copied
changed_reshape args one two unjoined goes r = map (copied_to (changed_from args two r.from) r.by) (changed_to args one unjoined goes r.to)

-- the parts in place of one: the fused repetition at the second, and none at the first where that goes
abbrev pub changed_part : FuseArgs → List ℕ → Bool → Part → List Part
changed_part args whole goes p =
    if same p.name args.second then record { name = p.name; task = whole } ∷ []
    else (if same p.name args.first && goes then [] else p ∷ [])

-- a compound with the old one's ports, and its parts, links and reshapes changed
abbrev pub filled_compound : FuseArgs → Compound → Repeated → Repeated → List Port → List ℕ → Compound → Compound
filled_compound args c one two unjoined whole made = record made {
  ins = c.ins;
  outs = c.outs;
  parts = flat_map (changed_part args whole (first_goes args c)) c.parts;
  links = flat_map (changed_link args one two unjoined (first_goes args c)) c.links;
  reshapes = flat_map (changed_reshape args one two unjoined (first_goes args c)) c.reshapes;
}

-- the changed compound
abbrev pub fused_compound : FuseArgs → Compound → Repeated → Repeated → List Port → List ℕ → Compound
fused_compound args c one two unjoined whole =
    filled_compound args c one two unjoined whole (record { name = c.name; ins = []; outs = []; parts = []; links = []; reshapes = [] })
