mod Reading
mod Signs
