-- Text put into an area, behind what has been put in.
use Rattle.std.specs.Prelude.{ℕ, ◌+◌, ◌≤◌, ◌≡◌, List, length, take, drop}
use Rattle.std.proofs.lemmas.List.Edits.{sets}
use Rattle.io.specs.Counts.{IsPrefixLen}
use Rattle.text.specs.declared.Text.{Text}

-- there is room for a text
pub record Fits (area : Text) (text : List ℕ) : Type 0 where
  pub room : area.len + length text ≤ length area.area.now

-- an area with a text put in; that the area keeps its length follows from the first
pub record Put (area : Text) (text : List ℕ) (now : Text) : Type 0 where
  pub stored : now.area.now ≡ sets area.area.now area.len text
  pub next : now.len ≡ area.len + length text
  pub kept : length now.area.now ≡ length area.area.now
  pub same : now.area.ghost_name ≡ area.area.ghost_name

-- an area with a text at its front, so many bytes, and the rest as it was
pub record Front (area text now : List ℕ) (size : ℕ) : Type 0 where
  pub counts : IsPrefixLen size now
  pub shows : take size now ≡ text
  pub rest : drop size now ≡ drop size area
