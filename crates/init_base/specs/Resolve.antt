-- Where a path leads through the links of a tree, for a process whose root directory is the tree's (Linux,
-- path_resolution(7)): an absolute link begins at the root, `..` at the root stays there, and at most 40 links are
-- followed.
use Rattle.std.specs.Prelude.{◌≡◌, ℕ, zero, suc, ◌-◌, ◌<◌, ◌≤◌, ⊤, Bool, not, ◌&&◌, ◌||◌, ◌==◌, List, [], ◌∷◌, ◌++◌, length, take, bytes_eq, if◌then◌else◌, Option, Some, None}
use Rattle.std.specs.List.{flat_map, list_all, slice_split}
use Rattle.init_base.specs.declared.adapters.links.Standing.{Standing}
use Rattle.init_base.specs.declared.adapters.links.Standing.TheVariants as stands
use Rattle.init_base.specs.declared.adapters.resolve.End.{End}
use Rattle.init_base.specs.declared.adapters.resolve.End.TheVariants as ends
use Rattle.init_base.specs.declared.adapters.resolve.Stop.{Stop}
use Rattle.init_base.specs.declared.adapters.resolve.Stop.TheVariants as stops

-- A place below the root is told by the names that lead to it; the root's has none.

-- the path of a place: a slash before each name
abbrev pub path_to : List (List ℕ) → List ℕ
path_to place = flat_map (λ name. 47 ∷ name) place

-- the parts of a path, which stand between its slashes and may be empty
abbrev pub parts_of : List ℕ → List (List ℕ)
parts_of path = slice_split (λ byte. byte == 47) path

-- an empty part and a dot stay where they are
abbrev pub stays : List ℕ → Bool
stays part = bytes_eq part [] || bytes_eq part (46 ∷ [])

abbrev pub goes_up : List ℕ → Bool
goes_up part = bytes_eq part (46 ∷ 46 ∷ [])

-- the directory above; above the root is the root
abbrev pub above : List (List ℕ) → List (List ℕ)
above place = take (length place - 1) place

-- where a path begins that is met in a directory: an absolute one at the root
abbrev pub beginning : List (List ℕ) → List ℕ → List (List ℕ)
beginning place [] = place
beginning place (byte ∷ rest) = if byte == 47 then [] else place

-- where a path leads: to a place, and what is there
pub record Led : Type 0 where
  pub place : List (List ℕ)
  pub end : End

abbrev pub led : List (List ℕ) → End → Led
led place end = record { place = place; end = end }

-- how far parts lead before a link is followed: to their end, or to a link, from which the walk goes on at a place, with
-- the parts of the link's target and those behind it
pub data Stretch : Type 0 where
  ended : Led → Stretch
  at_link : List (List ℕ) → List (List ℕ) → Stretch

-- a file has nothing below it
abbrev pub file_end : End → List (List ℕ) → End
file_end file [] = file
file_end file (part ∷ rest) = ends.NotDirectory

-- a name in a directory is met, with the parts behind it; `on` is how far these lead from the directory of that name
abbrev pub met : Standing → List (List ℕ) → List ℕ → List (List ℕ) → Stretch → Stretch
met stands.Nothing place name rest on = ended (led (place ++ name ∷ []) ends.Nothing)
met stands.Directory place name rest on = on
met stands.PlainFile place name rest on = ended (led (place ++ name ∷ []) (file_end ends.PlainFile rest))
met stands.Other place name rest on = ended (led (place ++ name ∷ []) (file_end ends.Other rest))
met (stands.Link target) place name rest on = at_link (beginning place target) (parts_of target ++ rest)

abbrev pub stretch : (List ℕ → Standing) → List (List ℕ) → List (List ℕ) → Stretch
stretch at place [] = ended (led place ends.Directory)
stretch at place (part ∷ rest) =
    if stays part then stretch at place rest
    else (if goes_up part then stretch at (above place) rest
    else met (at (path_to (place ++ part ∷ []))) place part rest (stretch at (place ++ part ∷ []) rest))

-- a walk that goes on behind the link at which a stretch has ended
abbrev pub goes_on : (List (List ℕ) → List (List ℕ) → Led) → Stretch → Led
goes_on behind (ended there) = there
goes_on behind (at_link place parts) = behind place parts

-- where parts lead in so many stretches
unfoldable pub leads_in : (List ℕ → Standing) → ℕ → List (List ℕ) → List (List ℕ) → Led
leads_in at zero place parts = led place ends.TooManyLinks
leads_in at (suc more) place parts = goes_on (leads_in at more) (stretch at place parts)

-- where a path leads from a directory: 40 links lie between 41 stretches
unfoldable pub leads_to : (List ℕ → Standing) → List (List ℕ) → List ℕ → Led
leads_to at place path = leads_in at 41 (beginning place path) (parts_of path)

-- ---- what is below the root

abbrev pub has_no_slash : List ℕ → Bool
has_no_slash part = list_all (λ byte. not (byte == 47)) part

-- a name leads one directory down: it isn't empty, has no slash, and is neither `.` nor `..`
abbrev pub is_name : List ℕ → Bool
is_name part = not (stays part) && not (goes_up part) && has_no_slash part

-- a place that is reached by names alone lies below the root
abbrev pub is_below_root : List (List ℕ) → Bool
is_below_root place = list_all is_name place

-- ---- no link is on the way

-- a directory stands at the place and at each on the way to it
abbrev pub AreDirectories : (List ℕ → Standing) → List (List ℕ) → Type 0
AreDirectories at place = (n : ℕ) → 0 < n → n ≤ length place → at (path_to (take n place)) ≡ stands.Directory

-- what is there stands at the place itself, and directories alone lead to it
abbrev pub PassesNoLink : (List ℕ → Standing) → List (List ℕ) → End → Type 0
PassesNoLink at place ends.Directory = AreDirectories at place
PassesNoLink at place ends.PlainFile = AreDirectories at (above place) × (at (path_to place) ≡ stands.PlainFile)
PassesNoLink at place ends.Other = AreDirectories at (above place) × (at (path_to place) ≡ stands.Other)
PassesNoLink at place ends.Nothing = ⊤
PassesNoLink at place ends.NotDirectory = ⊤
PassesNoLink at place ends.TooManyLinks = ⊤

-- ---- a walk on its way

-- a stretch that has come to an end or a link at a place, with these parts left
abbrev pub stopped : Stop → List (List ℕ) → List (List ℕ) → Stretch
stopped (stops.End end) place left = ended (led place end)
stopped (stops.Link target) place left = at_link (beginning place target) (parts_of target ++ left)

-- a stretch that has stopped, or goes on
abbrev pub stepped : (List ℕ → Standing) → Option Stop → List (List ℕ) → List (List ℕ) → Stretch
stepped at None place left = stretch at place left
stepped at (Some stop) place left = stopped stop place left

-- a stretch that has come to an end, or to a link, behind which the walk goes on at this place with these parts
abbrev pub walked : Option End → List (List ℕ) → List (List ℕ) → Stretch
walked None place left = at_link place left
walked (Some end) place left = ended (led place end)
