mod WordLaws
mod Parts
