-- Facts on sets of protocols: an array is read value by value.
use Rattle.std.proofs.Common.{◌≡◌, ℕ, ◌+◌, ◌<◌, ◌≤◌, Bool, List, length, drop, get_or, Some, None, refl}
use Rattle.std.proofs.lemmas.List.{drop_all}
use Rattle.toml.specs.Data.{as_str}
use Rattle.toml.specs.View.{view, items_view}
use Rattle.toml.specs.declared.value.Value.{Value}
use Rattle.toml.proofs.Views.{items_view-drop}
use Rattle.ppp_conf.specs.Protocols.{with_name, with_names}

pub with_names-more : (values : List Value) (i : ℕ) (value : Value) (protocols more : List Bool) → i < length values → value ≡ get_or values i value →
    with_name protocols (as_str (view value)) ≡ Some more → with_names protocols (items_view (drop i values)) ≡ with_names more (items_view (drop (i + 1) values))
unfolding with_names
with_names-more values i value protocols more within here named = rw (items_view-drop values i value within, ← here, named) refl

pub with_names-stop : (values : List Value) (i : ℕ) (value : Value) (protocols : List Bool) → i < length values → value ≡ get_or values i value →
    with_name protocols (as_str (view value)) ≡ None → with_names protocols (items_view (drop i values)) ≡ None
unfolding with_names
with_names-stop values i value protocols within here named = rw (items_view-drop values i value within, ← here, named) refl

pub with_names-end : (values : List Value) (i : ℕ) (protocols : List Bool) → length values ≤ i → with_names protocols (items_view (drop i values)) ≡ Some protocols
unfolding with_names
with_names-end values i protocols past = rw (drop_all i values past) refl
