use Rattle.std.proofs.Common.{◌≡◌, ◌∙◌, length, sym, ap, arith}
use Rattle.std.proofs.lemmas.Option.{slice_get_within}
use Rattle.aol_model_types.specs.declared.task.Compound.{Compound}
use Rattle.aol_model_types.specs.declared.task.Copied.{Copied}
use Rattle.aol_model_types.specs.declared.task.Task.TheVariants as tasks
use Rattle.aol_flat.specs.Node.{Node, space_around}
use Rattle.aol_flat.proofs.CopyLeaves.{copy_spot, copy_split, leaf_copy, split_there, split_rest}
use Rattle.aol_flat.proofs.NodeAt.{one_node, number_within, read_item}
use Rattle.aol_flat.proofs.flat.Flat.copy_at.Goals as goal

pub unreachable-requires : goal.unreachable-requires
unreachable-requires c =
    let here = c.task.ensures.task in
    let s = copy_spot c.args.self.now.model c.args.leaf c.args.at.now here.0 c.task.result.now c.leaf_spot-spot.result c.requires c.leaf_spot-spot.ensures here.1 in
    c.in_default.not-Compound s.task s.is

pub bounds-as_slice-spot : goal.bounds-as_slice-spot
bounds-as_slice-spot c =
    let here = c.task.ensures.task in
    let s = copy_spot c.args.self.now.model c.args.leaf c.args.at.now here.0 c.task.result.now c.leaf_spot-spot.result c.requires c.leaf_spot-spot.ensures here.1 in
    let both : tasks.Compound c.in-Compound.task ≡ tasks.Compound s.task = sym c.in-Compound.is ∙ s.is in
    let same : c.in-Compound.task ≡ s.task = cc in
    omega (arith, slice_get_within s.task.reshapes c.leaf_spot-spot.result.reshape s.copied s.listed, ap length c.as_slice.ensures, ap (λ (x : Compound). length x.reshapes) same)

pub row-requires : goal.row-requires
row-requires c = let here = c.task.ensures.task in number_within c.args.self.now.model c.leaf_spot-spot.result.node here.0 c.task.result.now here.1

pub split_at-requires : goal.split_at-requires
split_at-requires c =
    let m = c.args.self.now.model in
    let here = c.task.ensures.task in
    let s = copy_spot m c.args.leaf c.args.at.now here.0 c.task.result.now c.leaf_spot-spot.result c.requires c.leaf_spot-spot.ensures here.1 in
    let same : c.row.ensures.node ≡ s.node = (one_node m c.leaf_spot-spot.result.node c.row.ensures.node s.node c.row.ensures.task (tasks.Compound s.task) c.row.ensures.at s.at_node).0 in
    split_there m c.args.leaf c.args.at.now c.task.result.now c.leaf_spot-spot.result s c.row.result.around (c.row.ensures.around ∙ ap (λ (n : Node). length (space_around n)) same)

pub split_at-requires-2 : goal.split_at-requires-2
split_at-requires-2 c =
    let m = c.args.self.now.model in
    let here = c.task.ensures.task in
    let s = copy_spot m c.args.leaf c.args.at.now here.0 c.task.result.now c.leaf_spot-spot.result c.requires c.leaf_spot-spot.ensures here.1 in
    let same : c.row.ensures.node ≡ s.node = (one_node m c.leaf_spot-spot.result.node c.row.ensures.node s.node c.row.ensures.task (tasks.Compound s.task) c.row.ensures.at s.at_node).0 in
    let both : tasks.Compound c.in-Compound.task ≡ tasks.Compound s.task = sym c.in-Compound.is ∙ s.is in
    let same_task : c.in-Compound.task ≡ s.task = cc in
    let item : c.index-as_slice-spot.result ≡ s.copied =
    c.index-as_slice-spot.is
    ∙ read_item s.task.reshapes c.as_slice.result.now c.leaf_spot-spot.result.reshape s.copied c.index-as_slice-spot.result (c.as_slice.ensures ∙ ap (λ (x : Compound). x.reshapes) same_task) s.listed in
    split_rest m c.args.leaf c.args.at.now c.task.result.now c.leaf_spot-spot.result s c.row.result.around (length c.as_slice-2.result.now) (length c.split_at.result.1.now)
    (c.row.ensures.around ∙ ap (λ (n : Node). length (space_around n)) same) (ap length c.as_slice-2.ensures.entries ∙ ap (λ (x : Copied). length x.by.space) item) c.split_at.ensures.back_len

pub returns-clause-copy : goal.returns-clause-copy
returns-clause-copy c =
    let m = c.args.self.now.model in
    let here = c.task.ensures.task in
    let s = copy_spot m c.args.leaf c.args.at.now here.0 c.task.result.now c.leaf_spot-spot.result c.requires c.leaf_spot-spot.ensures here.1 in
    let same : c.row.ensures.node ≡ s.node = (one_node m c.leaf_spot-spot.result.node c.row.ensures.node s.node c.row.ensures.task (tasks.Compound s.task) c.row.ensures.at s.at_node).0 in
    let both : tasks.Compound c.in-Compound.task ≡ tasks.Compound s.task = sym c.in-Compound.is ∙ s.is in
    let same_task : c.in-Compound.task ≡ s.task = cc in
    let item : c.index-as_slice-spot.result ≡ s.copied =
    c.index-as_slice-spot.is
    ∙ read_item s.task.reshapes c.as_slice.result.now c.leaf_spot-spot.result.reshape s.copied c.index-as_slice-spot.result (c.as_slice.ensures ∙ ap (λ (x : Compound). x.reshapes) same_task) s.listed in
    leaf_copy m c.args.leaf c.args.at.now c.task.result.now c.leaf_spot-spot.result s c.in-Compound.task c.index-as_slice-spot.result c.split_at.result.0.now c.split_at-2.result.0.now c.split_at-2.result.1.now same_task item
    (copy_split (space_around s.node) s.copied c.args.at.now c.split_at.result.0.now c.split_at.result.1.now c.split_at-2.result.0.now c.split_at-2.result.1.now c.row.result.around (length c.as_slice-2.result.now)
    s.inside (c.row.ensures.around ∙ ap (λ (n : Node). length (space_around n)) same) (ap length c.as_slice-2.ensures.entries ∙ ap (λ (x : Copied). length x.by.space) item)
    c.split_at.ensures.front c.split_at.ensures.back c.split_at-2.ensures.front c.split_at-2.ensures.back)
