-- Walks over the items of a list.
use Rattle.std.proofs.Common.{◌≡◌, ℕ, ◌+◌, ◌<◌, ◌≤◌, List, [], ◌∷◌, length, map, drop, get_or, refl, sym, ◌∙◌, ap, arith, zero, suc, ◌-◌, Ok, Err, add-one, drop-cons}
use Rattle.std.specs.declared.result.Result.{Result}
use Rattle.std.proofs.lemmas.List.{drop_all}
use Rattle.serde_json.specs.Data.{Data, Items, no_items, item}
use Rattle.serde_json.specs.View.{items_of}
use Rattle.json_read.specs.Field.{◌>>=◌}
use Rattle.json_read.specs.Path.{item_of}
use Rattle.metadata_links.specs.Finding.{Listing, Walk, each_item, path_with, in_path, deeper, Lists}
use Rattle.metadata_links.specs.declared.finding.BadLink.{BadLink}
use Rattle.metadata_links.specs.declared.finding.Stop.{Stop}
use Rattle.metadata_links.specs.declared.finding.Stop.TheVariants as stop
use Rattle.metadata_links.specs.declared.link.Link.{Link}

-- the items from the i-th on are the i-th and those after it
pub item_here : {V : Type 0} (seen : V → Data) (values : List V) (i : ℕ) (value : V) → i < length values → value ≡ get_or values i value
    → items_of (map seen (drop i values)) ≡ item (seen value) (items_of (map seen (drop (i + 1) values)))
item_here seen values i value below is = rw (drop-cons values i value below, ← is, add-one i) refl

pub item_none : {V : Type 0} (seen : V → Data) (values : List V) (i : ℕ) → length values ≤ i → items_of (map seen (drop i values)) ≡ no_items
item_none seen values i over = ap (λ left. items_of (map seen left)) (drop_all i values over)

-- where one listing ends, so does the other
ends_on : (fault : Stop) (one all : Listing) → ((bad : BadLink) → one ≡ Err bad → all ≡ Err bad) → Lists (Err fault) one → Lists (Err fault) all
ends_on (stop.Bad bad) one all step is = step bad is
ends_on stop.Memory one all step is = tt

module _ {V : Type 0} (seen : V → Data) (walk : Walk) (path : List ℕ) (values : List V) (i : ℕ) (links : List Link) (whole : Listing) where
  one_more : (value : Data) (rest : Items) (more : List Link) → walk (item_of path i) links value ≡ Ok more
      → each_item walk path i links (item value rest) ≡ each_item walk path (i + 1) more rest
  unfolding each_item
  one_more value rest more is = rw is refl

  one_bad : (value : Data) (rest : Items) (bad : BadLink) → walk (item_of path i) links value ≡ Err bad
      → each_item walk path i links (item value rest) ≡ Err bad
  unfolding each_item
  one_bad value rest bad is = rw is refl

  -- an item more was walked
  pub goes_on : each_item walk path i links (items_of (map seen (drop i values))) ≡ whole
      → (value : V) → i < length values → value ≡ get_or values i value → (more : List Link) → walk (item_of path i) links (seen value) ≡ Ok more
      → each_item walk path (i + 1) more (items_of (map seen (drop (i + 1) values))) ≡ whole
  goes_on so_far value below is more one = sym (one_more (seen value) (items_of (map seen (drop (i + 1) values))) more one)
      ∙ ap (λ items. each_item walk path i links items) (sym (item_here seen values i value below is)) ∙ so_far

  -- an item has a Link that names nothing
  pub ends : each_item walk path i links (items_of (map seen (drop i values))) ≡ whole
      → (value : V) → i < length values → value ≡ get_or values i value → (fault : Stop) → Lists (Err fault) (walk (item_of path i) links (seen value))
      → Lists (Err fault) whole
  ends so_far value below is fault = ends_on fault (walk (item_of path i) links (seen value)) whole (λ bad none. sym so_far
      ∙ ap (λ items. each_item walk path i links items) (item_here seen values i value below is)
      ∙ one_bad (seen value) (items_of (map seen (drop (i + 1) values))) bad none)

  -- all items were walked
  pub is_done : each_item walk path i links (items_of (map seen (drop i values))) ≡ whole → length values ≤ i → whole ≡ Ok links
  unfolding each_item
  is_done so_far over = sym so_far ∙ ap (λ items. each_item walk path i links items) (item_none seen values i over)

-- ---- how deep PathMatch objects nest

pub none_left : (base : List ℕ) (left depth : ℕ) (path : List ℕ) (before : List Link) (value : Data) → left ≡ 0 → in_path base left depth path before value ≡ Ok before
unfolding in_path
none_left base left depth path before value is = rw is refl

pub some_left : (base : List ℕ) (left depth : ℕ) → 0 < left → in_path base left depth ≡ path_with base depth (in_path base (left - 1) (deeper depth))
unfolding in_path
some_left base zero depth some = absurd (omega arith)
some_left base (suc left) depth some = let e : suc left - 1 ≡ left = omega arith in rw e refl
