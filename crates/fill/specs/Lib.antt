pub mod OneLost
