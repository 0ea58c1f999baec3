-- What a call needs that ends something: it is open to the pass of the home.
use Rattle.std.specs.Prelude.{ℕ}
use Rattle.history.specs.After.{begun_delivery, begun_fetch, begun_refresh}
use Rattle.history.specs.Event.{Event, History}
use Rattle.history.specs.Laws.{HasBegun, ends_delivery, ends_fetch, ends_refresh}
use Rattle.node_core.specs.Home.{EndsOpen, Who}

abbrev pub NeedsOpen : Who → Event → History → Type 0
NeedsOpen who event h = EndsOpen who.made h who.number event

abbrev pub OpenDelivery : Who → ℕ → History → Type 0
OpenDelivery who delivery h = HasBegun who.made begun_delivery ends_delivery h delivery who.number

abbrev pub OpenFetch : Who → ℕ → History → Type 0
OpenFetch who fetch h = HasBegun who.made begun_fetch ends_fetch h fetch who.number

abbrev pub OpenRefresh : Who → ℕ → History → Type 0
OpenRefresh who refresh h = HasBegun who.made begun_refresh ends_refresh h refresh who.number

abbrev pub BothOpen : Who → ℕ → ℕ → History → Type 0
BothOpen who delivery fetch h = OpenDelivery who delivery h × OpenFetch who fetch h
